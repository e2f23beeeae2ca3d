use Rattle.std.proofs.Common.{◌≡◌, [], map, take}
use Rattle.std.specs.Prelude.{slice_index_or}
use Rattle.heap_levels.proofs.shape_rows.group_texts_of.Given as goal

-- those of the groups so far
abbrev pub invariant-loop-group : goal.invariant-loop-group
invariant-loop-group l = l.found ≡ map (λ group. slice_index_or l.texts group.first []) (take l.group-index l.groups)
