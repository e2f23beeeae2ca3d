-- Hex numbers, and what stands behind one and a colon.
use Rattle.std.proofs.Common.{◌≡◌, ℕ, ◌+◌, ◌<◌, ◌≤◌, ◌^◌, true, not, ◌&&◌, List, ◌∷◌, ◌++◌, length, take, drop, get_or, Some, ◌∙◌, ap, subst, arith}
use Rattle.std.specs.Prelude.{nat_lt, nat_le}
use Rattle.std.specs.List.{list_all, prefix_len, position_or_len}
use Rattle.std.specs.Str.Parse.{digits_value}
use Rattle.std.proofs.lemmas.Bool.{and_parts, ltb-true, leb-true, eqb-true, not-false, not_from_false, false≢true, false_from_ne_true}
use Rattle.std.proofs.lemmas.List.Sums.{prefix_len_stops, split_at_first}
use Rattle.std.proofs.lemmas.Option.{some_pair_parts}
use Rattle.std.proofs.Math.Seq.{take-append_seam, drop-append-add}
use Rattle.dump_io.specs.Colons.{is_colon, has_colon, before_colon, after_colon}
use Rattle.dump_io.specs.Numbers.{hex_number, is_numeral}
use Rattle.dump_io.specs.Laws.Colons.{colon-within, has_colon-at}
use Rattle.term_forms.specs.Words.{colon, is_hex_digit, IsLed, led_of}
use Rattle.term_forms.specs.Reading.{◌>>=◌}
use Rattle.term_forms.proofs.Steps.{bind_some, bind_from, guard_some, guard_from, guard_option}
use Rattle.term_forms.proofs.Runs.{run_over}
use Rattle.dump_io.specs.Laws.Lists.{list_all-weaker}

-- what a hex number is
pub record IsHex (text : List ℕ) (n : ℕ) : Type 0 where
  pub some : 1 ≤ length text
  pub few : length text ≤ 16
  pub digits : list_all is_hex_digit text ≡ true
  pub small : n < 2 ^ 64
  pub value : digits_value 16 text ≡ n

pub hex_parts : (text : List ℕ) (n : ℕ) → hex_number text ≡ Some n → IsHex text n
hex_parts text n h =
    let is = guard_some (is_numeral 16 16 text) (digits_value 16 text) n h in
    let outer = and_parts (nat_le 1 (length text) && nat_le (length text) 16 && list_all is_hex_digit text) (nat_lt (digits_value 16 text) (2 ^ 64)) is.0 in
    let inner = and_parts (nat_le 1 (length text) && nat_le (length text) 16) (list_all is_hex_digit text) outer.0 in
    let count = and_parts (nat_le 1 (length text)) (nat_le (length text) 16) inner.0 in
    let small : digits_value 16 text < 2 ^ 64 = ltb-true (digits_value 16 text) (2 ^ 64) outer.1 in
    record {
      some = leb-true 1 (length text) count.0;
      few = leb-true (length text) 16 count.1;
      digits = inner.1;
      small = subst (λ k. k < 2 ^ 64) is.1 small;
      value = is.1;
    }

-- no hex digit is a colon
no_colon : (c : ℕ) → is_hex_digit c ≡ true → not (is_colon c) ≡ true
no_colon c h = not_from_false (is_colon c) (false_from_ne_true (is_colon c) (λ e.
    false≢true (subst (λ d. is_hex_digit d ≡ true) (eqb-true c colon e) h)))

-- ---- the first colon

-- a text is read by where its first colon stands
led_at : (text : List ℕ) (at : ℕ) → has_colon text ≡ true → position_or_len is_colon text ≡ at
    → led_of text ≡ (hex_number (take at text) >>= λ n. Some (n, drop (at + 1) text))
unfolding led_of
led_at text at some e =
    guard_from (has_colon text) (hex_number (before_colon text) >>= λ n. Some (n, after_colon text)) some
    ∙ ap (λ k. hex_number (take k text) >>= λ n. Some (n, drop (k + 1) text)) e

colon_after : (hex rest : List ℕ) → list_all is_hex_digit hex ≡ true → position_or_len is_colon (hex ++ colon ∷ rest) ≡ length hex
colon_after hex rest digits =
    let over : prefix_len (λ c. not (is_colon c)) (hex ++ colon ∷ rest) ≡ length hex + 0
    = run_over (λ c. not (is_colon c)) hex (colon ∷ rest) (list_all-weaker is_hex_digit (λ c. not (is_colon c)) no_colon hex digits) in
    omega (arith, over)

-- the number that leads a text, and what stands behind its colon, are read
pub led_full : (text : List ℕ) (n : ℕ) (rest : List ℕ) → IsLed text n rest → led_of text ≡ Some (n, rest)
led_full text n rest led =
    let hex = led.0 in
    let whole = hex ++ colon ∷ rest in
    let is : IsHex hex n = hex_parts hex n led.1 in
    let number : hex_number (take (length hex) whole) ≡ Some n = ap hex_number (take-append_seam hex (colon ∷ rest)) ∙ led.1 in
    ap led_of led.2 ∙ led_at whole (length hex) (has_colon-at hex rest) (colon_after hex rest is.digits)
    ∙ bind_from (hex_number (take (length hex) whole)) (λ n. Some (n, drop (length hex + 1) whole)) n (n, rest) number
    (ap (λ r. Some (n, r)) (drop-append-add hex (colon ∷ rest) 1))

-- what is read is the number that leads the text
pub led_sound : (text : List ℕ) (n : ℕ) (rest : List ℕ) → led_of text ≡ Some (n, rest) → IsLed text n rest
unfolding led_of
led_sound text n rest h =
    let at = position_or_len is_colon text in
    let o = hex_number (take at text) >>= λ n. Some (n, drop (at + 1) text) in
    let inside = guard_option (has_colon text) o (n, rest) h in
    let found = bind_some (hex_number (take at text)) (λ n. Some (n, drop (at + 1) text)) (n, rest) inside.1 in
    let here : at < length text = colon-within text inside.0 in
    let pair : (found.0 ≡ n) × (drop (at + 1) text ≡ rest) = some_pair_parts found.0 n (drop (at + 1) text) rest found.2 in
    let stop : get_or text at 0 ≡ colon = eqb-true (get_or text at 0) colon (not-false (is_colon (get_or text at 0)) (prefix_len_stops (λ c. not (is_colon c)) text 0 here)) in
    let split : text ≡ take at text ++ (get_or text at 0 ∷ drop (at + 1) text) = split_at_first is_colon text 0 here in (
      take at text,
      found.1 ∙ ap Some pair.0,
      split ∙ ap (λ c. take at text ++ (c ∷ drop (at + 1) text)) stop ∙ ap (λ r. take at text ++ colon ∷ r) pair.1,
    )
