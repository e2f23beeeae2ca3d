use Rattle.std.proofs.Common.{◌<◌, length, ◌∙◌, sym, ap, subst}
use Rattle.std.proofs.lemmas.List.{length-map}
use Rattle.std.specs.Prelude.{All, map}
use Rattle.cell_parts.specs.Parts.{CellPart}
use Rattle.heap_weights.specs.declared.shares.Weight.{Weight}
use Rattle.part_keys.specs.PartShapes.{shaped_part}
use Rattle.heap_levels.specs.Inner.Plain.{subject_cell}
use Rattle.heap_levels.proofs.LevelFacts.{parts-kept}
use Rattle.heap_levels.proofs.level_parts.parts_of_level.Goals as goal

pub shaped_parts-requires-clause-cells : goal.shaped_parts-requires-clause-cells
shaped_parts-requires-clause-cells c = subst (λ n. All (λ cell. cell < n) c.cells.result.now) c.requires.over.leads c.cells.ensures.within

pub returns-clause-within : goal.returns-clause-within
returns-clause-within c = record {
  shaped = c.in_ok-shaped.ensures.within;
  count = ap length (c.in_ok-shaped.ensures.shaped ∙ ap (map (shaped_part c.args.skeleton.now c.subject_cell-whole.result)) c.cells.ensures.value)
      ∙ length-map (map (λ (p : CellPart). p.cell) c.args.parts.now.parts) (shaped_part c.args.skeleton.now c.subject_cell-whole.result)
      ∙ length-map c.args.parts.now.parts (λ (p : CellPart). p.cell)
      ∙ sym (c.requires.count)
      ∙ sym (length-map c.args.alone.now (λ (w : Weight). w.words))
      ∙ sym (ap length c.in_ok-words.ensures);
}

pub returns-clause-parts : goal.returns-clause-parts
returns-clause-parts c = λ elements made alone_is.
    let heap = c.args.skeleton.now in
    parts-kept heap c.args.subject c.args.parts.now c.args.alone.now elements c.in_ok-shaped.shaped.items c.in_ok-words.words.items made alone_is
    (c.in_ok-shaped.ensures.shaped ∙ ap (λ whole. map (shaped_part heap whole) c.cells.result.now) c.subject_cell-whole.ensures.value ∙ ap (map (shaped_part heap (subject_cell heap c.args.subject))) c.cells.ensures.value)
    c.in_ok-words.ensures
