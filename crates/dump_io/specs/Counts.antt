-- Counts that stay at 2^64 - 1 once they reach it.
use Rattle.std.specs.Prelude.{ℕ, ◌+◌, ◌-◌, ◌^◌, ◌≤◌, Bool, min, if◌then◌else◌}

-- the count is greater than before, or is at its maximum
abbrev pub Rose : ℕ → ℕ → Type 0
Rose before now = min (before + 1) (2 ^ 64 - 1) ≤ now

-- a count after n more
abbrev pub plus_capped : ℕ → ℕ → ℕ
plus_capped before n = min (before + n) (2 ^ 64 - 1)

-- a count after one more, if this is so
abbrev pub risen_if : Bool → ℕ → ℕ
risen_if is before = if is then plus_capped before 1 else before
