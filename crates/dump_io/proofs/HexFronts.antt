-- The hex digits that begin a text.
use Rattle.std.proofs.Common.{◌≡◌, ℕ, ◌^◌, ◌<◌, ◌≤◌, ◌⊎◌, Bool, true, false, List, length, take, Some, None, inl, inr, refl, sym, ◌∙◌, ap, arith, if◌then◌else◌}
use Rattle.std.specs.List.{list_all, prefix_len}
use Rattle.std.specs.Str.Parse.{digits_value}
use Rattle.std.proofs.lemmas.Bool.{and_parts, leb-true, false≢true}
use Rattle.std.proofs.lemmas.List.{length-take, length-take-le, take-take, take_all}
use Rattle.std.proofs.lemmas.List.Folds.{list_all_at}
use Rattle.std.proofs.lemmas.List.Sums.{prefix_len_stops}
use Rattle.dump_io.specs.Numbers.{is_hex_digit, is_numeral, hex_number}
use Rattle.dump_io.specs.Laws.HexNumbers.{digits_value-below, hex_number-digits}
use Rattle.dump_io.proofs.Numerals.{refuted}

-- what is below 16 is the value of a digit
pub digit-value : (b : Bool) (value found : ℕ) → found ≡ (if b then value else 16) → found ≤ 15 → (b ≡ true) × (found ≡ value)
digit-value true value found is few = (refl, is)
digit-value false value found is few = absurd (omega (arith, is, few))

-- before the last of 16 digits the number has room for one more
pub front-grows : (text front : List ℕ) → front ≡ take 16 text → (i : ℕ) → i < length front → list_all is_hex_digit (take i front) ≡ true
    → digits_value 16 (take i front) < 2 ^ 60
front-grows text front is i inside digits =
    let len = length-take-le i front (omega (arith, inside)) in
    omega (arith, digits_value-below (take i front) 15 digits (omega (arith, len, inside, ap length is, length-take 16 text)))

-- what begins the longest front begins the text, and is a number if there is a digit
module _ (text front : List ℕ) (is : front ≡ take 16 text) (i : ℕ) (inside : i ≤ length front) where
  few : i ≤ 16
  few = omega (arith, inside, ap length is, length-take 16 text)

  pub front-within : i ≤ length text
  front-within = omega (arith, inside, ap length is, length-take 16 text)

  pub front-number : list_all is_hex_digit (take i front) ≡ true → (number : ℕ) → number ≡ digits_value 16 (take i front)
      → 0 < i → hex_number (take i text) ≡ Some number
  front-number digits number value some =
      let same : take i front ≡ take i text = ap (take i) is ∙ take-take i 16 text few in
      let len = length-take-le i text front-within in
      let all : list_all is_hex_digit (take i text) ≡ true = ap (list_all is_hex_digit) (sym same) ∙ digits in
      hex_number-digits (take i text) (omega (arith, len, some)) (omega (arith, len, few)) all
      ∙ ap Some (ap (digits_value 16) (sym same) ∙ sym value)

-- a text that has no hex digit at its front, or goes on after the last of them, is no number
pub front-alone : (text : List ℕ) (i : ℕ) → i ≡ prefix_len is_hex_digit (take 16 text) → (i ≡ 0) ⊎ (i < length text) → hex_number text ≡ None
front-alone text i run more =
    refuted (is_numeral 16 16 text) (digits_value 16 text) (λ is.
    let outer = and_parts _ _ (and_parts _ _ is).0 in
    let count = and_parts _ _ outer.0 in
    let some : 1 ≤ length text = leb-true 1 (length text) count.0 in
    let few : length text ≤ 16 = leb-true (length text) 16 count.1 in
    let same : take 16 text ≡ text = take_all 16 text few in
    let stop : i ≡ prefix_len is_hex_digit text = run ∙ ap (prefix_len is_hex_digit) same in
    let inside : prefix_len is_hex_digit text < length text = elim more [ inl none ↦ omega (arith, stop, none, some) | inr ends ↦ omega (arith, stop, ends) ] in
    let other = prefix_len_stops is_hex_digit text 0 inside in
    false≢true (sym (list_all_at is_hex_digit text (prefix_len is_hex_digit text) 0 inside other) ∙ outer.1))
