use Rattle.std.proofs.Common.{◌≡◌, map, take}
use Rattle.heap_levels.specs.Inner.Shapes.{kept_group}
use Rattle.heap_levels.proofs.shape_rows.first_groups.Given as goal

-- the groups so far
abbrev pub invariant-loop-group : goal.invariant-loop-group
invariant-loop-group l = l.first.items ≡ map kept_group (take l.group-index l.groups)
