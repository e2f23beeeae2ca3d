use Rattle.std.proofs.Common.{◌≡◌, ℕ, map, get_or, refl, ap, ◌∙◌, arith, if◌then◌else◌}
use Rattle.std.specs.Char.{digit_value}
use Rattle.std.specs.List.{range_with_len}
use Rattle.std.proofs.lemmas.List.FromFn.{get_or-map-range_with_len}
use Rattle.dump_io.specs.Numbers.{is_hex_digit}
use Rattle.dump_io.specs.declared.numbers.TheConstants.{HEX_VALUES}
use Rattle.dump_io.proofs.numbers.hex_value.Goals as goal

abbrev value : ℕ → ℕ
value c = if is_hex_digit c then digit_value c else 16

-- the table has the value of each byte
table_is : HEX_VALUES ≡ map value (range_with_len 0 256)
table_is = refl

pub returns : goal.returns
returns c =
    c.from.ensures ∙ ap (λ t. get_or t c.args.c 0) table_is
    ∙ get_or-map-range_with_len value 0 256 c.args.c c.args.c 0 (omega arith) (omega arith)
