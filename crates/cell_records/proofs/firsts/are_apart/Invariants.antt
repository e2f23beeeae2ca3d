use Rattle.std.proofs.Common.{◌≡◌, ℕ, ◌+◌, ◌<◌, ◌≤◌, get_or}
use Rattle.cell_records.proofs.firsts.are_apart.Given as goal

abbrev pub invariant-loop-i : goal.invariant-loop-i
invariant-loop-i l = (1 ≤ l.i) × ((k : ℕ) → k + 1 < l.i → (get_or l.ranks k (0, 0)).0 ≡ (get_or l.ranks (k + 1) (0, 0)).0 → ⊥)
