use Rattle.std.proofs.Common.{◌<◌, All, map, nat_eq, sym, ◌∙◌, ap, subst}
use Rattle.std.specs.List.{IsDistinct}
use Rattle.cell_parts.specs.Parts.{CellPart, CellParts}
use Rattle.cell_parts.proofs.Keeping.{cells-distinct, cells-in, cells-within}
use Rattle.cell_parts.proofs.parts.Parts.cells.Goals as goal

pub returns-clause-value : goal.returns-clause-value
returns-clause-value c =
    let inside = c.self.inside in
    c.deref.ensures.value ∙ sym (cells-in inside.labels.items inside.cells.items inside.kept.items c.self.invariant.same)
    ∙ ap (λ (v : CellParts). map (λ (part : CellPart). part.cell) v.parts) c.self.view_is

pub returns-clause-within : goal.returns-clause-within
returns-clause-within c =
    let inside = c.self.inside in
    subst (λ (v : CellParts). All (λ cell. cell < v.cells) c.deref.result.now) c.self.view_is
    (rw c.deref.ensures.value (cells-within inside.places.items inside.cells.items c.self.invariant.placed))

pub returns-clause-distinct : goal.returns-clause-distinct
returns-clause-distinct c =
    subst (IsDistinct nat_eq) (sym c.deref.ensures.value) (cells-distinct c.self.inside.places.items c.self.inside.cells.items c.self.invariant.placed)
