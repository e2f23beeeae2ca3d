use Rattle.std.proofs.Common.{◌≡◌, ◌<◌, ◌^◌, true, take}
use Rattle.std.specs.List.{list_all}
use Rattle.std.specs.Str.Parse.{digits_value}
use Rattle.dump_io.proofs.Numerals.{is_digit_of}
use Rattle.dump_io.proofs.numbers.dec_u64.Given as goal

abbrev pub invariant-loop-digit : goal.invariant-loop-digit
invariant-loop-digit l =
    (l.number ≡ digits_value 10 (take l.digit-index l.text))
    × (list_all (is_digit_of 10) (take l.digit-index l.text) ≡ true)
    × (l.number < 2 ^ 64)
