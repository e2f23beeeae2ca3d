-- How many cells are in a set. A set of cells is a test of their numbers.
use Rattle.std.specs.Prelude.{ℕ, zero, suc, ◌+◌, Bool, true, false}

-- 1 if this is so, and otherwise 0
abbrev pub one_if : Bool → ℕ
one_if true = 1
one_if false = 0

-- how many of the first n cells are in the set
abbrev pub count_below : (ℕ → Bool) → ℕ → ℕ
count_below set zero = 0
count_below set (suc n) = count_below set n + one_if (set n)
