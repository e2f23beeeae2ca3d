use Rattle.std.proofs.Common.{sym, subst}
use Rattle.dump_sections.specs.Index.{IsIndexOf}
use Rattle.dump_trial.specs.Inner.GoodDumps.{bytes_in}
use Rattle.dump_io.specs.HeldDump.{now_of}
use Rattle.dump_trial.proofs.Opened.{heap-opened}
use Rattle.dump_trial.proofs.good_dump.GoodDump.heap.Goals as goal

pub of_heap-requires : goal.of_heap-requires
of_heap-requires c =
    heap-opened c.self.inside.dumps c.load_at.new.dumps c.index.result.now c.args.finder.now c.self.inside.limits c.args.pid.now _ _ c.in-Err.fault c.self.invariant
    (subst (λ bytes. IsIndexOf bytes c.args.finder.now) (sym c.self.view_is) c.requires) c.index.ensures c.heap-place.ensures.section
    c.literals-literals.ensures.section (c.in-Err.ensures.answer.told (bytes_in (now_of c.self.inside.dumps)) c.self.invariant.opened, c.in-Err.ensures.loads.fault)
