-- The digits of numbers: none is a sign or an end of a line, and how many there are.
use Rattle.std.proofs.Common.{◌≡◌, ℕ, ◌^◌, ◌-◌, ◌<◌, ◌≤◌, ◌==◌, Bool, true, false, List, [], ◌∷◌, ◌++◌, length, refl, sym, ap, subst, arith, inl, inr, cond}
use Rattle.std.specs.Prelude.{◌⊎◌, not, ◌&&◌, nat_le, nat_lt, decimal}
use Rattle.std.specs.Char.{digit_value}
use Rattle.std.specs.Fmt.{digits}
use Rattle.std.specs.List.{list_all}
use Rattle.std.specs.Str.Parse.{AllDigits}
use Rattle.std.proofs.lemmas.Bool.{and_parts, and_from, le-leb, lt-ltb, ne_eqb, eq-eqb, not_from_false, not-true, both_ways, cases_lt}
use Rattle.std.proofs.lemmas.Fmt.{digits_is_IsNumeral}
use Rattle.dump_io.specs.Lines.{equals_sign}
use Rattle.dump_io.specs.Numbers.{hexadecimal}
use Rattle.line_source.specs.Streams.{begins_with_equals}

-- a byte that is neither a control byte nor an equals sign
abbrev pub is_plain : ℕ → Bool
is_plain c = nat_le 48 c && not (c == equals_sign)

digit_from_48 : (c : ℕ) → digit_value c < 16 → (c < 48) ⊎ (48 ≤ c) → 48 ≤ c
digit_from_48 c digit (inl low) =
    let rest = cond (nat_lt c 58) (c - 48) (cond (nat_lt c 65) 36 (cond (nat_lt c 91) (c - 55) (cond (nat_lt c 97) 36 (cond (nat_lt c 123) (c - 87) 36)))) in
    let none : digit_value c ≡ 36 = ap (λ b. cond b 36 rest) (lt-ltb c 48 low) in
    absurd (omega (arith, none, digit))
digit_from_48 c digit (inr high) = high

digit_is_no_equals : (c : ℕ) → digit_value c < 16 → c ≡ equals_sign → ⊥
digit_is_no_equals c digit same = let none : digit_value equals_sign < 16 = subst (λ b. digit_value b < 16) same digit in omega (arith, none)

digit_is_plain : (c : ℕ) → digit_value c < 16 → is_plain c ≡ true
digit_is_plain c digit =
    and_from (nat_le 48 c) (not (c == equals_sign)) (le-leb 48 c (digit_from_48 c digit (cases_lt c 48)))
    (not_from_false (c == equals_sign) (ne_eqb c equals_sign (digit_is_no_equals c digit)))

digits_are_plain : (base : ℕ) (text : List ℕ) → base ≤ 16 → AllDigits base text → list_all is_plain text ≡ true
digits_are_plain base [] small all = refl
digits_are_plain base (c ∷ text) small all =
    and_from (is_plain c) (list_all is_plain text) (digit_is_plain c (omega (arith, all.0))) (digits_are_plain base text small all.1)

-- a text of at least one byte, and each of them plain
pub record IsPlain (text : List ℕ) : Type 0 where
  pub some : 0 < length text
  pub plain : list_all is_plain text ≡ true

numeral_is_plain : (base : ℕ) (upper : Bool) (n : ℕ) → 2 ≤ base → base ≤ 16 → n < base ^ 64 → IsPlain (digits base upper n)
numeral_is_plain base upper n low high below =
    let is = digits_is_IsNumeral base upper low high n below in
    record { some = is.0.0; plain = digits_are_plain base (digits base upper n) high is.0.1 }

pub decimal_is_plain : (n : ℕ) → n < 2 ^ 64 → IsPlain (decimal n)
decimal_is_plain n below = numeral_is_plain 10 false n (omega arith) (omega arith) (omega (arith, below))

pub hexadecimal_is_plain : (n : ℕ) → n < 2 ^ 64 → IsPlain (hexadecimal n)
hexadecimal_is_plain n below = numeral_is_plain 16 true n (omega arith) (omega arith) (omega (arith, below))

pub plain_is_no_header : (text more : List ℕ) → IsPlain text → begins_with_equals (text ++ more) ≡ false
plain_is_no_header [] more is = absurd (omega (arith, is.some))
plain_is_no_header (c ∷ text) more is =
    let parts = and_parts (nat_le 48 c) (not (c == equals_sign)) (and_parts (is_plain c) (list_all is_plain text) is.plain).0 in
    ap (λ b. b && true) (ne_eqb equals_sign c (λ same. both_ways (c == equals_sign) (not-true (c == equals_sign) parts.1) (eq-eqb c equals_sign (sym same))))
