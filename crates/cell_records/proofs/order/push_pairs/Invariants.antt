use Rattle.std.proofs.Common.{◌≡◌, ℕ, ◌<◌, length, get_or, map}
use Rattle.cell_records.specs.Order.{address_in}
use Rattle.cell_records.proofs.order.push_pairs.Given as goal

abbrev pub invariant-loop-i : goal.invariant-loop-i
invariant-loop-i g l =
    (length l.pairs ≡ l.i) × ((k : ℕ) (d : ℕ × ℕ) → k < l.i → get_or l.pairs k d ≡ (address_in (map g.T.Located.address l.cells) k, k))
