-- How many hex digits a number has.
use Rattle.std.proofs.Common.{◌≡◌, ℕ, zero, suc, ◌+◌, ◌*◌, ◌/◌, ◌%◌, ◌^◌, ◌<◌, ◌≤◌, ◌==◌, true, List, [], ◌∷◌, length, refl, ap, arith, inl, inr, if◌then◌else◌}
use Rattle.std.specs.Prelude.{◌⊎◌}
use Rattle.std.specs.Fmt.{digits, digits_onto, digit_glyph}
use Rattle.std.proofs.lemmas.Bool.{ne_eqb, cases_eq}
use Rattle.std.proofs.lemmas.Grind.{common_steps}
use Rattle.dump_io.specs.Numbers.{hexadecimal}

-- the digits of a number before those that stand already, at most k of them
unfoldable onto : ℕ → ℕ → List ℕ → List ℕ
onto k n last = digits_onto k 16 true n last

onto_last : (k n : ℕ) (last : List ℕ) → n / 16 ≡ 0 → onto (suc k) n last ≡ digit_glyph true (n % 16) ∷ last
unfolding onto
onto_last k n last e = ap (λ d. if d == 0 then digit_glyph true (n % 16) ∷ last else digits_onto k 16 true (n / 16) (digit_glyph true (n % 16) ∷ last)) e

onto_more : (k n : ℕ) (last : List ℕ) → (n / 16 ≡ 0 → ⊥) → onto (suc k) n last ≡ onto k (n / 16) (digit_glyph true (n % 16) ∷ last)
unfolding onto
onto_more k n last more = ap (λ b. if b then digit_glyph true (n % 16) ∷ last else digits_onto k 16 true (n / 16) (digit_glyph true (n % 16) ∷ last)) (ne_eqb (n / 16) 0 more)

onto_none : (n : ℕ) (last : List ℕ) → onto zero n last ≡ last
unfolding onto
onto_none n last = refl

hexadecimal_onto : (n : ℕ) → hexadecimal n ≡ onto 64 n []
unfolding onto digits
hexadecimal_onto n = refl

pow_step : (k : ℕ) → 16 ^ suc k ≡ 16 * 16 ^ k
pow_step k = grind (arith, common_steps)

some_digit : (m j : ℕ) → (m ≡ 0 → ⊥) → m < 16 ^ j → 0 < j
some_digit m zero more below = absurd (more (omega (arith, below)))
some_digit m (suc j) more below = omega arith

onto_short_step : (k j n : ℕ) (last : List ℕ) → n < 16 ^ suc j
    → (0 < j → n / 16 < 16 ^ j → length (onto k (n / 16) (digit_glyph true (n % 16) ∷ last)) ≤ j + length (digit_glyph true (n % 16) ∷ last))
    → ((n / 16 ≡ 0) ⊎ (n / 16 ≡ 0 → ⊥)) → length (onto (suc k) n last) ≤ suc j + length last
onto_short_step k j n last below shorter (inl e) =
    let all : length (onto (suc k) n last) ≡ suc (length last) = ap length (onto_last k n last e) in omega (arith, all)
onto_short_step k j n last below shorter (inr more) =
    let small : n / 16 < 16 ^ j = omega (arith, below, pow_step j) in
    let rest : length (onto k (n / 16) (digit_glyph true (n % 16) ∷ last)) ≤ j + suc (length last) = shorter (some_digit (n / 16) j more small) small in
    let all : length (onto (suc k) n last) ≡ length (onto k (n / 16) (digit_glyph true (n % 16) ∷ last)) = ap length (onto_more k n last more) in
    omega (arith, rest, all)

onto_short : (k j n : ℕ) (last : List ℕ) → 0 < j → n < 16 ^ j → length (onto k n last) ≤ j + length last
onto_short zero j n last some below = let all : length (onto zero n last) ≡ length last = ap length (onto_none n last) in omega (arith, all)
onto_short (suc k) zero n last some below = absurd (omega (arith, some))
onto_short (suc k) (suc j) n last some below =
    onto_short_step k j n last below (λ one small. onto_short k j (n / 16) (digit_glyph true (n % 16) ∷ last) one small) (cases_eq (n / 16) 0)

-- a number below 16 ^ k has at most k digits
pub length-hexadecimal-le : (k n : ℕ) → 0 < k → n < 16 ^ k → length (hexadecimal n) ≤ k
length-hexadecimal-le k n some below =
    let all : length (hexadecimal n) ≡ length (onto 64 n []) = ap length (hexadecimal_onto n) in
    let few : length (onto 64 n []) ≤ k + 0 = onto_short 64 k n [] some below in
    omega (arith, all, few)
