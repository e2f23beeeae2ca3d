use Rattle.std.proofs.Common.{◌+◌, ◌<◌, ◌≤◌, Some, length, sym, ◌∙◌, ap, arith}
use Rattle.std.specs.Prelude.{slice_get, slice_range}
use Rattle.std.specs.Option.{option_map}
use Rattle.std.proofs.lemmas.Option.{slice_get-get_or}
use Rattle.dump_io.specs.Laws.Lists.{All-at}
use Rattle.cell_parts.specs.Parts.{CellPart, CellParts}
use Rattle.cell_parts.specs.declared.parts.Kept.{Kept}
use Rattle.cell_parts.proofs.Keeping.{kept-inside, part-read}
use Rattle.cell_parts.proofs.parts.Parts.label.Goals as goal

pub index-kept-requires : goal.index-kept-requires
index-kept-requires c =
    let inside = c.self.inside in
    let within : c.args.part < length inside.kept.items =
    kept-inside inside.labels.items inside.cells.items inside.kept.items c.args.self.now.parts c.args.part (ap (λ (v : CellParts). v.parts) c.self.view_is) c.self.invariant.same c.requires in
    omega (arith, within, inside.kept.ok.0)

pub items_between-requires-clause-within : goal.items_between-requires-clause-within
items_between-requires-clause-within c =
    let inside = c.self.inside in
    let within = kept-inside inside.labels.items inside.cells.items inside.kept.items c.args.self.now.parts c.args.part (ap (λ (v : CellParts). v.parts) c.self.view_is) c.self.invariant.same c.requires in
    let k = c.index-kept.result.now in
    let fits : k.from + k.size ≤ length inside.labels.items =
    All-at (λ (l : Kept). l.from + l.size ≤ length inside.labels.items) inside.kept.items c.args.part k c.self.invariant.within
    (slice_get-get_or inside.kept.items c.args.part k within ∙ ap Some (sym c.index-kept.ensures)) in
    rw c.deref.ensures.value fits

pub returns : goal.returns
returns c =
    let inside = c.self.inside in
    let within = kept-inside inside.labels.items inside.cells.items inside.kept.items c.args.self.now.parts c.args.part (ap (λ (v : CellParts). v.parts) c.self.view_is) c.self.invariant.same c.requires in
    let k = c.index-kept.result.now in
    ap Some (c.items_between.ensures ∙ ap (λ labels. slice_range labels k.from (k.from + k.size)) c.deref.ensures.value)
    ∙ sym (ap (option_map (λ (p : CellPart). p.label)) (part-read inside.labels.items inside.cells.items inside.kept.items c.args.part k c.self.invariant.same within c.index-kept.ensures))
    ∙ ap (λ (v : CellParts). option_map (λ (p : CellPart). p.label) (slice_get v.parts c.args.part)) c.self.view_is
