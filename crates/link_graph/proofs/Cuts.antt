-- The parts of a text, from a place on.
use Rattle.std.proofs.Common.{◌≡◌, ◌≢◌, ℕ, zero, suc, ◌+◌, ◌-◌, ◌<◌, ◌≤◌, ◌==◌, false, List, [], ◌∷◌, ◌++◌, length, take, drop, refl, sym, ◌∙◌, ap, subst, arith, if◌then◌else◌}
use Rattle.std.specs.Prelude.{slice_index}
use Rattle.std.proofs.lemmas.Bool.{eqb-true, false_from_ne_true, ne_eqb}
use Rattle.std.proofs.lemmas.Grind.{common_steps}
use Rattle.std.proofs.lemmas.List.{drop_more, drop-drop, length-drop, get_or-drop, append-nil, take-append-drop}
use Rattle.std.proofs.Math.Seq.{take-add}
use Rattle.link_graph.specs.Inner.Searching.{Holds, Nowhere}
use Rattle.link_graph.specs.Entries.{is_gap, led_by, cut}

-- parts with a front before the first of them
abbrev pub lead : List ℕ → List (List ℕ) → List (List ℕ)
lead [] parts = parts
lead (c ∷ front) parts = led_by c (lead front parts)

pub lead-part : (front part : List ℕ) (parts : List (List ℕ)) → lead front (part ∷ parts) ≡ (front ++ part) ∷ parts
lead-part [] part parts = refl
lead-part (c ∷ front) part parts = ap (led_by c) (lead-part front part parts)

pub lead-append : (front more : List ℕ) (parts : List (List ℕ)) → lead (front ++ more) parts ≡ lead front (lead more parts)
lead-append [] more parts = refl
lead-append (c ∷ front) more parts = ap (led_by c) (lead-append front more parts)

-- no gap, since the second byte is no space
no_gap : (c d : ℕ) → (d == 32) ≡ false → is_gap c d ≡ false
no_gap c d h = grind arith

-- a byte and the next one that are no gap
cut-byte : (c d : ℕ) (text : List ℕ) → is_gap c d ≡ false → cut (c ∷ d ∷ text) ≡ led_by c (cut (d ∷ text))
unfolding cut
cut-byte c d text h = ap (λ b. if b then [] ∷ cut text else led_by c (cut (d ∷ text))) h

-- a byte that is no comma begins the first part
cut-other : (c : ℕ) (text : List ℕ) → (c == 44) ≡ false → cut (c ∷ text) ≡ led_by c (cut text)
unfolding cut
cut-other c text h = grind arith

not_space : (text : List ℕ) (k : ℕ) → (Holds 32 text k → ⊥) → (slice_index text k == 32) ≡ false
not_space text k none = false_from_ne_true _ none

-- bytes without a space, and one more of them
cut-free : (n : ℕ) (text : List ℕ) → n < length text → Nowhere 32 text 0 (suc n) → cut text ≡ lead (take n text) (cut (drop n text))
cut-free zero text fits none = refl
cut-free (suc n) [] fits none = absurd (omega (arith, fits))
cut-free (suc n) (c ∷ []) fits none = absurd (omega (arith, fits))
cut-free (suc n) (c ∷ d ∷ text) fits none =
    cc (cut-byte c d text (no_gap c d (not_space (c ∷ d ∷ text) 1 (none 1 (omega arith) (omega arith)))), cut-free n (d ∷ text) (omega (arith, fits)) (λ k low high. none (suc k) (omega arith) (omega (arith, high))))

-- bytes without a space are one part
cut-none : (text : List ℕ) → Nowhere 32 text 0 (length text) → cut text ≡ text ∷ []
unfolding cut
cut-none [] none = refl
cut-none (c ∷ []) none = refl
cut-none (c ∷ d ∷ text) none =
    cc (cut-byte c d text (no_gap c d (not_space (c ∷ d ∷ text) 1 (none 1 (omega arith) (omega arith)))), cut-none (d ∷ text) (λ k low high. none (suc k) (omega arith) (omega (arith, high))))

-- the parts as far as a place
abbrev pub IsCutTo : List ℕ → ℕ → Type 0
IsCutTo text from = cut text ≡ lead (take from text) (cut (drop from text))

-- the first space behind a place
pub record IsSpace (text : List ℕ) (from k : ℕ) : Type 0 where
  pub fits : from + k < length text
  pub before : Nowhere 32 (drop from text) 0 k
  pub here : Holds 32 (drop from text) k

-- what a search of the rest found
pub found_space : (text rest : List ℕ) (from k : ℕ) → rest ≡ drop from text → (k < length rest) × Nowhere 32 rest 0 k × Holds 32 rest k → IsSpace text from k
found_space text rest from k e found = grind (arith, length-drop)

-- further on to a place
cut_to-place : (text : List ℕ) (from n : ℕ) → IsCutTo text from → cut (drop from text) ≡ lead (take n (drop from text)) (cut (drop n (drop from text))) → IsCutTo text (from + n)
cut_to-place text from n cut_to more = grind (arith, lead-append, take-add, drop-drop)

-- a byte further
cut_to-byte : (text : List ℕ) (from : ℕ) → IsCutTo text from → from < length text → (slice_index text from == 44) ≡ false → IsCutTo text (from + 1)
cut_to-byte text from cut_to fits other = grind (arith, common_steps, cut-other, lead-append)

space_at : (text : List ℕ) (from k : ℕ) → IsSpace text from k → slice_index text (from + k) ≡ 32
space_at text from k space = sym (get_or-drop from text k 0) ∙ eqb-true (slice_index (drop from text) k) 32 space.here

-- as far as the byte before the space
to_before : (text : List ℕ) (from n : ℕ) → IsCutTo text from → IsSpace text from (n + 1) → IsCutTo text (from + n)
to_before text from n cut_to space = grind (arith, cut_to-place, cut-free, length-drop)

-- at a gap the first part ends
cut-gap : (text : List ℕ) (from n : ℕ) → IsCutTo text from → IsSpace text from (n + 1) → slice_index text (from + n) ≡ 44
    → cut text ≡ take (from + n) text ∷ cut (drop (from + n + 2) text)
unfolding cut
cut-gap text from n cut_to space comma =
    let at = from + n in
    let order : from + (n + 1) ≡ at + 1 = omega arith in
    let order-2 : at + 1 + 1 ≡ at + 2 = omega arith in
    let split : drop at text ≡ 44 ∷ drop (at + 1) text = drop_more text at 0 (omega (arith, space.fits)) ∙ ap (λ c. c ∷ drop (at + 1) text) comma in
    let split-2 : drop (at + 1) text ≡ 32 ∷ drop (at + 2) text =
    drop_more text (at + 1) 0 (omega (arith, space.fits)) ∙ ap (λ c. c ∷ drop (at + 1 + 1) text) (ap (slice_index text) (sym order) ∙ space_at text from (n + 1) space) ∙ ap (λ n. 32 ∷ drop n text) order-2 in
    cc (to_before text from n cut_to space, lead-part (take at text) [] (cut (drop (at + 2) text)), append-nil (take at text))

pub gap-at : (text : List ℕ) (from k : ℕ) → IsCutTo text from → IsSpace text from k → 0 < k → slice_index text (from + k - 1) ≡ 44
    → (from + k - 1 + 2 ≤ length text) × (cut text ≡ take (from + k - 1) text ∷ cut (drop (from + k - 1 + 2) text))
gap-at text from zero cut_to space some comma = absurd (omega (arith, some))
gap-at text from (suc n) cut_to space some comma =
    let one : suc n ≡ n + 1 = omega arith in
    let near : from + suc n - 1 ≡ from + n = omega arith in (
      omega (arith, space.fits),
      subst (λ at. cut text ≡ take at text ∷ cut (drop (at + 2) text)) (sym near)
          (cut-gap text from n cut_to (subst (IsSpace text from) one space) (ap (slice_index text) (sym near) ∙ comma)),
    )

-- and goes on at a space without a comma before it
pub cut_to-more : (text : List ℕ) (from k : ℕ) → IsCutTo text from → IsSpace text from k → (0 < k → slice_index text (from + k - 1) ≢ 44) → IsCutTo text (from + k + 1)
cut_to-more text from zero cut_to space other = grind (arith, space_at, cut_to-byte)
cut_to-more text from (suc n) cut_to space other =
    let one : suc n ≡ n + 1 = omega arith in
    let near : from + suc n - 1 ≡ from + n = omega arith in
    let next : from + suc n ≡ from + n + 1 = omega arith in
    let before : IsCutTo text (from + n) = to_before text from n cut_to (subst (IsSpace text from) one space) in
    let byte : (slice_index text (from + n) == 44) ≡ false = ap (λ i. slice_index text i == 44) (sym near) ∙ ne_eqb (slice_index text (from + suc n - 1)) 44 (other (omega arith)) in
    let at : IsCutTo text (from + n + 1) = cut_to-byte text (from + n) before (omega (arith, space.fits)) byte in
    let here : slice_index text (from + n + 1) ≡ 32 = ap (slice_index text) (sym next) ∙ space_at text from (suc n) space in
    subst (λ i. IsCutTo text (i + 1)) (sym next) (cut_to-byte text (from + n + 1) at (omega (arith, space.fits)) (ap (λ c. c == 44) here))

-- where no space is left, the rest is one part
pub cut-last : (text rest : List ℕ) (from : ℕ) → rest ≡ drop from text → IsCutTo text from → Nowhere 32 rest 0 (length rest) → cut text ≡ text ∷ []
cut-last text rest from e cut_to none = grind (arith, cut-none, lead-part, take-append-drop)
