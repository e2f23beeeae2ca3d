use Rattle.std.proofs.Common.{◌≡◌, ◌++◌, drop}
use Rattle.std.specs.List.{enumerate_from, filter_map}
use Rattle.part_weights.specs.Held.{held_part, held_parts}
use Rattle.part_weights.proofs.held_parts.held_parts.Given as goal

-- what was appended, and what the parts that are left have
abbrev pub invariant-loop-part : goal.invariant-loop-part
invariant-loop-part l = l.held.items ++ filter_map held_part (enumerate_from l.part (drop l.part l.alone)) ≡ held_parts l.alone
