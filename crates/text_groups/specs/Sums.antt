-- Sums as they are shown.
use Rattle.std.specs.Prelude.{ℕ, ◌-◌, ◌^◌, min}

-- a sum as it is shown, at most 2^64 - 1
abbrev pub capped : ℕ → ℕ
capped sum = min sum (2 ^ 64 - 1)
