use Rattle.std.proofs.Common.{◌<◌, Some, length, sym, ◌∙◌, ap, arith}
use Rattle.std.proofs.lemmas.Option.{slice_get-get_or}
use Rattle.cell_parts.specs.Inner.Joining.{cell_at}
use Rattle.cell_parts.specs.Parts.{CellParts}
use Rattle.cell_parts.proofs.Keeping.{cell-there, kept-inside}
use Rattle.cell_parts.proofs.parts.Parts.cell.Goals as goal

pub index-requires : goal.index-requires
index-requires c =
    let inside = c.self.inside in
    let kept : c.args.part < length inside.kept.items =
    kept-inside inside.labels.items inside.cells.items inside.kept.items c.args.self.now.parts c.args.part (ap (λ (v : CellParts). v.parts) c.self.view_is) c.self.invariant.same c.requires in
    omega (arith, kept, c.self.invariant.same)

pub returns : goal.returns
returns c =
    let inside = c.self.inside in
    let kept : c.args.part < length inside.kept.items =
    kept-inside inside.labels.items inside.cells.items inside.kept.items c.args.self.now.parts c.args.part (ap (λ (v : CellParts). v.parts) c.self.view_is) c.self.invariant.same c.requires in
    ap Some c.index.ensures
    ∙ sym (slice_get-get_or inside.cells.items c.args.part c.index.result.now (omega (arith, kept, c.self.invariant.same)))
    ∙ sym (cell-there inside.labels.items inside.cells.items inside.kept.items c.args.part c.self.invariant.same)
    ∙ ap (λ (v : CellParts). cell_at v.parts c.args.part) c.self.view_is
