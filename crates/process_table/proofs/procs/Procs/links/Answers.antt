use Rattle.std.proofs.Common.{◌<◌, length, sym, ◌∙◌, ap, arith}
use Rattle.process_table.specs.Processes.{Process, ProcessTable, process_at}
use Rattle.process_table.proofs.Joining.{count_of, cell_at-read, process_at-row}
use Rattle.process_table.proofs.procs.Procs.links.Goals as goal

pub cell-requires-clause-row : goal.cell-requires-clause-row
cell-requires-clause-row c =
    omega (arith, c.requires, ap (λ (t : ProcessTable). length t.processes) c.self.view_is, count_of c.self.inside.places.items c.self.inside.fields.rows c.self.invariant.rows, c.self.invariant.rows)

pub returns : goal.returns
returns c =
    let i = c.args.i in
    let places = c.self.inside.places.items in
    let rows = c.self.inside.fields.rows in
    let inside : i < length places = omega (arith, c.requires, ap (λ (t : ProcessTable). length t.processes) c.self.view_is, count_of places rows c.self.invariant.rows) in
    sym (ap (λ (p : Process). p.links) (process_at-row places rows i c.self.invariant.rows inside) ∙ cell_at-read rows i 4 _ c.cell.ensures)
    ∙ ap (λ (t : ProcessTable). (process_at t.processes i).links) c.self.view_is
