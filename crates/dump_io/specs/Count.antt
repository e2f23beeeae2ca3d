-- A count as a value of the program.
use Rattle.std.specs.Prelude.{ℕ, ◌^◌, ◌<◌}
use Rattle.dump_io.specs.declared.count.Count.{Count}

-- the current number of a count
abbrev pub number_in : Count → ℕ
number_in count = count.number

-- the number of a count has 64 bits
pub number_in-small : (count : Count) → number_in count < 2 ^ 64
number_in-small count = count.small
