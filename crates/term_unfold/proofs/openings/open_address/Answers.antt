use Rattle.std.specs.Option.{option_map}
use Rattle.std.proofs.Common.{refl, ap, subst}
use Rattle.term_forms.specs.Elements.{Ref}
use Rattle.heap_cells.specs.HeapMap.{form_at}
use Rattle.heap_cells.specs.Targets.{number}
use Rattle.term_unfold.proofs.Targets.{found-address}
use Rattle.term_unfold.specs.Inner.Openings.{Opens}
use Rattle.term_unfold.specs.Rules.{Term}
use Rattle.term_unfold.proofs.Opens.{term-none}
use Rattle.term_unfold.proofs.openings.open_address.Goals as goal

pub returns-in-Missing : goal.returns-in-Missing
returns-in-Missing c =
    term-none _ _ c.args.addr c.missing.ensures.found c.requires.serves.size c.missing.ensures.line
    (ap (option_map (form_at c.args.heap.now.cells)) c.in-Missing.ensures) _ refl

pub returns-in-Malformed : goal.returns-in-Malformed
returns-in-Malformed c =
    let heap = c.args.heap.now.cells in
    let same = found-address heap c.args.addr (number c.in-Malformed.ix) c.in-Malformed.ensures.0 in
    subst (λ a. Opens c.args.heap.now c.args.path.now (Term (Ref a)) c.open_cell.result) same c.open_cell.ensures

pub returns-in-Cell : goal.returns-in-Cell
returns-in-Cell c =
    let heap = c.args.heap.now.cells in
    let same = found-address heap c.args.addr (number c.in-Cell.ix) c.in-Cell.ensures.0 in
    subst (λ a. Opens c.args.heap.now c.args.path.now (Term (Ref a)) c.open_cell-in-Cell.result) same c.open_cell-in-Cell.ensures
