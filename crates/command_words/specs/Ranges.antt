-- Numbers in words, within a range: decimal, with or without leading zeros.
use Rattle.std.specs.Prelude.{ℕ, ◌&&◌, List, Option, None, Some, nat_le, if◌then◌else◌}
use Rattle.std.specs.Option.{option_and_then}
use Rattle.dump_io.specs.Numbers.{dec_number}

-- the number from 1 to a maximum that a word writes, or `None`
abbrev pub number_upto : ℕ → List ℕ → Option ℕ
number_upto most word = option_and_then (λ n. if nat_le 1 n && nat_le n most then Some n else None) (dec_number word)
