use Rattle.std.proofs.Common.{[], map, take, ◌∙◌, ap}
use Rattle.std.specs.Prelude.{slice_index_or}
use Rattle.text_groups.specs.Sorting.{most_first}
use Rattle.heap_levels.specs.Inner.Shapes.{kept_group}
use Rattle.heap_levels.proofs.ShapeFacts.{shapes-kept}
use Rattle.heap_levels.proofs.shape_rows.shapes_of_parts.Goals as goal

pub returns : goal.returns
returns c =
    shapes-kept c.args.texts.now c.args.words.now c.args.most c.in_ok-groups.groups.items c.in_ok-texts.texts c.requires c.in_ok-check_sum.ensures
    (c.in_ok-groups.ensures ∙ ap (λ l. take c.args.most (most_first (λ group. group.words) (map kept_group l))) (c.deref.ensures.value ∙ c.in_ok-group_texts.ensures.groups))
    (c.in_ok-texts.ensures ∙ ap (map (λ group. slice_index_or c.args.texts.now group.first [])) c.deref-2.ensures.value)
