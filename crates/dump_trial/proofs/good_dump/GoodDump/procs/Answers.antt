use Rattle.std.proofs.Common.{sym, subst}
use Rattle.dump_io.specs.HeldDump.{now_of}
use Rattle.dump_sections.specs.Index.{IsIndexOf, sections_in}
use Rattle.process_table.specs.Records.{record_sections}
use Rattle.dump_trial.proofs.Contained.{small-records}
use Rattle.dump_trial.proofs.Opened.{bodies-opened, small-opened}
use Rattle.dump_trial.proofs.good_dump.GoodDump.procs.Goals as goal

pub of_body-requires : goal.of_body-requires
of_body-requires c =
    let index = c.args.index.now in
    let all = small-opened (now_of c.self.inside.dumps) index c.self.inside.limits c.self.invariant (subst (λ bytes. IsIndexOf bytes index) (sym c.self.view_is) c.requires) in
    bodies-opened c.self.inside.dumps c.load.new.dumps (record_sections (sections_in index)) c.self.inside.limits c.in-Err.fault c.self.invariant
    (small-records (sections_in index) all) c.in-Err.ensures.loads.fault
