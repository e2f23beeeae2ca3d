use Rattle.std.proofs.Common.{◌≡◌, map, take}
use Rattle.heap_levels.proofs.level_parts.words_of.Given as goal

-- those of the parts so far
abbrev pub invariant-loop-weight : goal.invariant-loop-weight
invariant-loop-weight l = l.words.items ≡ map (λ weight. weight.words) (take l.weight-index l.alone)
