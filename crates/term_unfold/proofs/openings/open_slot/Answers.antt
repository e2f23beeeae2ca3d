use Rattle.std.proofs.Common.{sym, ◌∙◌, ap, subst}
use Rattle.heap_cells.specs.Targets.{number}
use Rattle.term_unfold.proofs.Targets.{leads-at, leads-missing}
use Rattle.term_unfold.specs.Inner.Openings.{Opens}
use Rattle.term_unfold.specs.Rules.{Term}
use Rattle.term_unfold.proofs.Opens.{term-none}
use Rattle.heap_cells.specs.Targets.{slot_target}
use Rattle.term_unfold.proofs.openings.open_slot.Goals as goal

pub returns-in-Gone : goal.returns-in-Gone
returns-in-Gone c = λ e leads.
    let gone = leads-missing c.args.heap.now.cells c.in-Gone.addr e (leads ∙ ap slot_target c.in-Gone.is) in
    term-none _ _ c.in-Gone.addr c.missing.ensures.found c.requires.serves.size c.missing.ensures.line gone.1 e gone.0

pub returns-in-Cell : goal.returns-in-Cell
returns-in-Cell c = λ e leads.
    let heap = c.args.heap.now.cells in
    let to = leads-at heap (number c.in-Cell.ix) e (leads ∙ ap slot_target c.in-Cell.is) in
    subst (λ x. Opens c.args.heap.now c.args.path.now (Term x) c.open_cell.result) (sym to.element) c.open_cell.ensures
