use Rattle.std.proofs.Common.{◌≡◌, ◌<◌, Some, length, map, set, refl, sym, ◌∙◌, ap, arith}
use Rattle.std.specs.Prelude.{slice_get}
use Rattle.std.proofs.lemmas.Option.{slice_get-get_or}
use Rattle.cell_parts.specs.Parts.{CellParts}
use Rattle.cell_parts.specs.Inner.Joining.{cell_at, counted}
use Rattle.cell_parts.specs.Inner.Keeping.{parts_in}
use Rattle.cell_parts.specs.declared.parts.Kept.{Kept}
use Rattle.cell_parts.proofs.Keeping.{cell-there, counted-at, kept-inside, only-place}
use Rattle.cell_parts.proofs.Pushing.{value-with}
use Rattle.cell_parts.proofs.parts.Parts.count_one.Goals as goal

pub index-kept-requires : goal.index-kept-requires
index-kept-requires c =
    let inside = c.self.inside in
    let within : c.args.part < length inside.kept.items =
    kept-inside inside.labels.items inside.cells.items inside.kept.items c.args.self.now.parts c.args.part (ap (λ (v : CellParts). v.parts) c.self.view_is) c.self.invariant.same c.requires in
    omega (arith, within, inside.kept.ok.0)

pub index_mut-requires : goal.index_mut-requires
index_mut-requires c =
    let inside = c.self.inside in
    let within : c.args.part < length inside.kept.items =
    kept-inside inside.labels.items inside.cells.items inside.kept.items c.args.self.now.parts c.args.part (ap (λ (v : CellParts). v.parts) c.self.view_is) c.self.invariant.same c.requires in
    omega (arith, within, inside.kept.ok.0)

pub returns-clause-parts : goal.returns-clause-parts
returns-clause-parts c = λ cell at.
    let inside = c.self.inside in
    let k = c.index-kept.result.now in
    let within : c.args.part < length inside.kept.items =
    kept-inside inside.labels.items inside.cells.items inside.kept.items c.args.self.now.parts c.args.part (ap (λ (v : CellParts). v.parts) c.self.view_is) c.self.invariant.same c.requires in
    let here : slice_get inside.cells.items c.args.part ≡ Some cell =
    sym (cell-there inside.labels.items inside.cells.items inside.kept.items c.args.part c.self.invariant.same) ∙ ap (λ (v : CellParts). cell_at v.parts c.args.part) c.self.view_is ∙ at in
    value-with c.args.self.now inside.places.items inside.places.items inside.elements (parts_in inside.labels.items inside.cells.items inside.kept.items) _ (map (counted cell)) c.self.view_is refl
    (ap (λ n. parts_in inside.labels.items inside.cells.items (set inside.kept.items c.args.part (let l : Kept = record { elements = n; at = k.at; from = k.from; size = k.size } in l))) c.in_ok-one_more.ensures
    ∙ counted-at inside.labels.items inside.cells.items inside.kept.items c.args.part cell k c.self.invariant.same here
    (λ j there. only-place inside.places.items inside.cells.items c.self.invariant.placed c.args.part j cell here there)
    (slice_get-get_or inside.kept.items c.args.part k within ∙ ap Some (sym c.index-kept.ensures)))
