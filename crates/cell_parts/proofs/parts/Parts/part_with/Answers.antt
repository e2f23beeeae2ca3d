use Rattle.std.proofs.Common.{◌≡◌, ◌+◌, ◌-◌, ◌<◌, Some, length, false, sym, ◌∙◌, ap, subst, arith}
use Rattle.std.specs.Prelude.{slice_get}
use Rattle.std.specs.List.{list_any}
use Rattle.std.proofs.lemmas.Option.{slice_get-get_or}
use Rattle.cell_parts.specs.Parts.{CellParts}
use Rattle.cell_parts.specs.Inner.Joining.{cell_at, is_of}
use Rattle.cell_parts.proofs.Keeping.{cell-there, no-place, none-of}
use Rattle.cell_parts.proofs.parts.Parts.part_with.Goals as goal

pub returns-in-0-clause-none : goal.returns-in-0-clause-none
returns-in-0-clause-none c =
    let inside = c.self.inside in
    let within : c.args.cell < length inside.places.items = subst (λ (v : CellParts). c.args.cell < v.cells) (sym c.self.view_is) c.requires in
    let here : slice_get inside.places.items c.args.cell ≡ Some 0 =
    slice_get-get_or inside.places.items c.args.cell c.index.result.now within ∙ ap Some (sym c.index.ensures ∙ c.in-0.is) in
    subst (λ (v : CellParts). list_any (is_of c.args.cell) v.parts ≡ false) c.self.view_is
    (none-of inside.labels.items inside.cells.items inside.kept.items c.args.cell
    (no-place inside.places.items inside.cells.items c.self.invariant.placed c.args.cell here))

pub returns-in_default-clause-found : goal.returns-in_default-clause-found
returns-in_default-clause-found c =
    let inside = c.self.inside in
    let within : c.args.cell < length inside.places.items = subst (λ (v : CellParts). c.args.cell < v.cells) (sym c.self.view_is) c.requires in
    let number : c.index.result.now ≡ c.index.result.now - 1 + 1 = omega (arith, c.in_default) in
    let here : slice_get inside.places.items c.args.cell ≡ Some (c.index.result.now - 1 + 1) =
    slice_get-get_or inside.places.items c.args.cell c.index.result.now within ∙ ap Some (sym c.index.ensures ∙ number) in
    subst (λ (v : CellParts). cell_at v.parts (c.index.result.now - 1) ≡ Some c.args.cell) c.self.view_is
    (cell-there inside.labels.items inside.cells.items inside.kept.items (c.index.result.now - 1) c.self.invariant.same
    ∙ c.self.invariant.placed.found (c.index.result.now - 1) c.args.cell here)
