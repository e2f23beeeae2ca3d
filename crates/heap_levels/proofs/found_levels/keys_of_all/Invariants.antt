use Rattle.std.proofs.Common.{◌≡◌, take}
use Rattle.std.specs.List.{flat_map}
use Rattle.heap_levels.specs.Inner.Reading.{level_keys}
use Rattle.heap_levels.proofs.found_levels.keys_of_all.Given as goal

-- where the keys of the levels so far stand
abbrev pub invariant-loop-level : goal.invariant-loop-level
invariant-loop-level l = l.keys.items ≡ flat_map level_keys (take l.level-index l.levels)
