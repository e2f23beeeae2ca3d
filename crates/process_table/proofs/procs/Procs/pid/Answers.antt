use Rattle.std.proofs.Common.{length, sym, ◌∙◌, ap, arith}
use Rattle.process_table.specs.Processes.{Process, ProcessTable, process_at}
use Rattle.std.specs.Prelude.{slice_get}
use Rattle.process_table.specs.Inner.Finding.{named_places}
use Rattle.process_table.proofs.Joining.{count_of, process_at-joined}
use Rattle.process_table.proofs.procs.Procs.pid.Goals as goal

pub place_at-requires : goal.place_at-requires
place_at-requires c =
    omega (arith, c.requires, ap (λ (t : ProcessTable). length t.processes) c.self.view_is, count_of c.self.inside.places.items c.self.inside.fields.rows c.self.invariant.rows)

pub returns : goal.returns
returns c =
    sym (ap (λ (p : Process). p.pid) (process_at-joined c.self.inside.places.items c.self.inside.fields.rows c.args.i _ c.self.invariant.rows (ap (λ l. slice_get (named_places l) c.args.i) (sym c.deref.ensures.value) ∙ c.place_at.ensures)))
    ∙ ap (λ (t : ProcessTable). (process_at t.processes c.args.i).pid) c.self.view_is
