use Rattle.std.proofs.Common.{◌<◌, length, sym, ◌∙◌, ap, arith}
use Rattle.std.specs.Prelude.{slice_get}
use Rattle.std.specs.Option.{option_map}
use Rattle.cell_parts.specs.Parts.{CellPart, CellParts}
use Rattle.cell_parts.proofs.Keeping.{kept-inside, part-read}
use Rattle.cell_parts.proofs.parts.Parts.elements.Goals as goal

pub index-requires : goal.index-requires
index-requires c =
    let inside = c.self.inside in
    let within : c.args.part < length inside.kept.items =
    kept-inside inside.labels.items inside.cells.items inside.kept.items c.args.self.now.parts c.args.part (ap (λ (v : CellParts). v.parts) c.self.view_is) c.self.invariant.same c.requires in
    omega (arith, within, inside.kept.ok.0)

pub returns : goal.returns
returns c =
    let inside = c.self.inside in
    let within = kept-inside inside.labels.items inside.cells.items inside.kept.items c.args.self.now.parts c.args.part (ap (λ (v : CellParts). v.parts) c.self.view_is) c.self.invariant.same c.requires in
    sym (ap (option_map (λ (p : CellPart). p.elements)) (part-read inside.labels.items inside.cells.items inside.kept.items c.args.part c.index.result.now c.self.invariant.same within c.index.ensures))
    ∙ ap (λ (v : CellParts). option_map (λ (p : CellPart). p.elements) (slice_get v.parts c.args.part)) c.self.view_is
