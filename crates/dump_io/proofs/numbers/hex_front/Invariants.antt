use Rattle.std.proofs.Common.{◌≡◌, ◌+◌, ◌-◌, ◌≤◌, true, length, take, drop}
use Rattle.std.specs.List.{list_all, prefix_len}
use Rattle.std.specs.Str.Parse.{digits_value}
use Rattle.dump_io.specs.Numbers.{is_hex_digit}
use Rattle.dump_io.proofs.numbers.hex_front.Given as goal

abbrev pub invariant-loop-count : goal.invariant-loop-count
invariant-loop-count l =
    (l.count ≤ length l.front)
    × (prefix_len is_hex_digit l.front ≡ l.count + prefix_len is_hex_digit (drop l.count l.front))
    × (list_all is_hex_digit (take l.count l.front) ≡ true)
    × (l.number ≡ digits_value 16 (take l.count l.front))

abbrev pub decreases-loop-count : goal.decreases-loop-count
decreases-loop-count l = length l.front - l.count
