-- A number is read digit by digit.
use Rattle.std.proofs.Common.{◌≡◌, ℕ, ◌+◌, ◌*◌, ◌^◌, ◌<◌, ◌≤◌, Bool, true, false, List, length, take, get_or, None, Some, refl, sym, ◌∙◌, ltb, arith, if◌then◌else◌}
use Rattle.std.specs.List.{list_all}
use Rattle.std.specs.Char.{digit_value}
use Rattle.std.specs.Str.Parse.{digits_value}
use Rattle.std.proofs.lemmas.Bool.{and_parts, ltb-true, false≢true, true_from_ne_false}
use Rattle.std.proofs.lemmas.List.Folds.{list_all_at}
use Rattle.std.proofs.lemmas.Int.Digits.{digits_value_more}
use Rattle.std.proofs.lemmas.Str.Parse.{digits_value-take-le}
use Rattle.dump_io.specs.Numbers.{is_numeral, number_of}

-- whether a byte is a digit of the base
abbrev pub is_digit_of : ℕ → ℕ → Bool
is_digit_of base c = ltb (digit_value c) base

pub refuted : (b : Bool) (v : ℕ) → (b ≡ true → ⊥) → (if b then Some v else None) ≡ None
refuted true v h = absurd (h refl)
refuted false v h = refl

-- a digit that can't be added leaves no number
pub number_of-stopped : (base most : ℕ) (text : List ℕ) (i : ℕ) → 1 ≤ base → i < length text
    → ((digit_value (get_or text i 0) < base) × (digits_value base (take i text) * base + digit_value (get_or text i 0) < 2 ^ 64) → ⊥)
    → number_of base most text ≡ None
number_of-stopped base most text i some inside stopped =
    refuted (is_numeral base most text) (digits_value base text) (λ is.
    let parts = and_parts _ _ is in
    let digits = (and_parts _ _ parts.0).1 in
    let digit : digit_value (get_or text i 0) < base =
    ltb-true _ _ (true_from_ne_false _ (λ no. false≢true (sym (list_all_at (is_digit_of base) text i 0 inside no) ∙ digits))) in
    let small : digits_value base text < 2 ^ 64 = ltb-true _ _ parts.1 in
    let more = digits_value_more base text i inside in
    let front = digits_value-take-le base text (i + 1) some in
    stopped (digit, omega (arith, small, more, front)))

-- all digits could be added
pub number_of-read : (base most : ℕ) (text : List ℕ) → 1 ≤ length text → length text ≤ most → list_all (is_digit_of base) text ≡ true
    → digits_value base text < 2 ^ 64 → number_of base most text ≡ Some (digits_value base text)
number_of-read base most text some few digits small = grind arith
