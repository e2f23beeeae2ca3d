use Rattle.std.proofs.Common.{◌≡◌, ℕ, take, map}
use Rattle.cell_records.proofs.ranks.Ranks.numbers.Given as goal

abbrev pub invariant-loop-i : goal.invariant-loop-i
invariant-loop-i l = l.numbers.items ≡ map (λ (p : ℕ × ℕ). p.1) (take l.i l.self)
