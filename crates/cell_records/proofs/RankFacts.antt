-- Pairs as they are kept.
use Rattle.std.proofs.Common.{◌≡◌, ℕ, ◌+◌, ◌-◌, ◌*◌, ◌/◌, ◌%◌, ◌<◌, ◌≤◌, inl, inr, List, get_or, length, map, ◌∙◌, ap, ap₂, arith, ◌^◌}
use Rattle.std.specs.Prelude.{All}
use Rattle.std.specs.Int.RustNames.{bit_or}
use Rattle.std.specs.List.Sorted.{IsNonDecreasingBy}
use Rattle.std.proofs.Math.Nat.{div-mul-le_self, le-div_iff_mul-le, mod-eq_of_lt, pow-le-pow_right}
use Rattle.std.proofs.lemmas.Bool.{cases_lt}
use Rattle.std.proofs.lemmas.List.{get_or-map, length-map}
use Rattle.std.proofs.lemmas.List.Elements.{All-map}
use Rattle.std.proofs.lemmas.Nat.{div-add-mod', div-mul-add, le-div, mod-mul-add, mod_below, or_shifted, pow_pos}
use Rattle.cell_records.specs.Order.{rank, AreSorted}
use Rattle.cell_records.specs.Inner.Ranks.{pair_at, reach}

pow-most : (bits : ℕ) → bits ≤ 32 → 2 ^ bits ≤ 2 ^ 32
pow-most bits few = pow-le-pow_right (omega arith) few

div-rises : (a b m : ℕ) → 0 < m → a ≤ b → a / m ≤ b / m
div-rises a b m more up = let whole = div-mul-le_self a m in le-div (a / m) b m more (omega (arith, whole, up))

-- the lowest bits of a number
few-low : (n bits : ℕ) → bits ≤ 32 → n % 2 ^ bits < 2 ^ 32
few-low n bits few = let low = mod_below n (2 ^ bits) (pow_pos bits) in let most = pow-most bits few in omega (arith, low, most)

-- ---- the order of what is kept

-- pairs stand in the order of the numbers that they are kept as
rank-rises : (base bits a b : ℕ) → bits ≤ 32 → a ≤ b → rank (pair_at base bits a).0 (pair_at base bits a).1 ≤ rank (pair_at base bits b).0 (pair_at base bits b).1
rank-rises base bits a b few up =
    let m = 2 ^ bits in
    let quotients = div-rises a b m (pow_pos bits) up in
    let one = few-low a bits few in
    let a_is = div-add-mod' a m in
    let b_is = div-add-mod' b m in
    elim (cases_lt (a / m) (b / m)) [
      | inl less ↦ omega (arith, less, one)
      | inr more ↦
          let same : a / m ≡ b / m = omega (arith, quotients, more) in
          let wholes = ap (λ q. q * m) same in
          let lows : a % m ≤ b % m = omega (arith, a_is, b_is, wholes, up) in
          omega (arith, same, lows)
    ]

pub narrow-ranked : (base bits : ℕ) (ranks : List ℕ) → bits ≤ 32 → IsNonDecreasingBy (λ n. n) ranks → AreSorted (map (pair_at base bits) ranks)
narrow-ranked base bits ranks few sorted i j d up inside =
    let within : j < length ranks = omega (arith, inside, length-map ranks (pair_at base bits)) in
    let one = get_or-map (pair_at base bits) ranks i 0 d (omega arith) in
    let other = get_or-map (pair_at base bits) ranks j 0 d within in
    rw (one, other) (rank-rises base bits (get_or ranks i 0) (get_or ranks j 0) few (sorted i j 0 up within))

-- ---- the numbers of what is kept

pub narrow-numbered : (base bits : ℕ) (ranks : List ℕ) → bits ≤ 32 → All (λ (p : ℕ × ℕ). p.1 < 2 ^ 32) (map (pair_at base bits) ranks)
narrow-numbered base bits ranks few = All-map (λ (p : ℕ × ℕ). p.1 < 2 ^ 32) (pair_at base bits) ranks (λ k d inside. few-low (get_or ranks k d) bits few)

-- ---- a pair that fits

pub fits : (base bits above number : ℕ) → above ≤ reach bits → number / 2 ^ bits ≡ 0 → pair_at base bits (bit_or (above * 2 ^ bits % 2 ^ 64) number) ≡ (base + above, number)
fits base bits above number near low =
    let m = 2 ^ bits in
    let more = pow_pos bits in
    let number_is = div-add-mod' number m in
    let nothing = ap (λ q. q * m) low in
    let rest = mod_below number m more in
    let less : number < m = omega (arith, number_is, nothing, rest) in
    let below : above * m ≤ 2 ^ 64 - 1 = (le-div_iff_mul-le more).0 near in
    let kept : bit_or (above * m % 2 ^ 64) number ≡ above * m + number =
    ap (λ n. bit_or n number) (mod-eq_of_lt (omega (arith, below))) ∙ or_shifted above bits number less in
    ap (pair_at base bits) kept ∙ ap₂ (λ q r. (base + q, r)) (div-mul-add above m number less) (mod-mul-add above m number less)
