use Rattle.std.proofs.Common.{length, ap, arith}
use Rattle.process_table.specs.Processes.{ProcessTable}
use Rattle.process_table.proofs.Joining.{count_of}
use Rattle.process_table.proofs.procs.Procs.at.Goals as goal

pub joined_at-requires-clause-place : goal.joined_at-requires-clause-place
joined_at-requires-clause-place c =
    omega (arith, c.requires, ap (λ (t : ProcessTable). length t.processes) c.self.view_is, count_of c.self.inside.places.items c.self.inside.fields.rows c.self.invariant.rows)
