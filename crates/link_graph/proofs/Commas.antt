-- The last comma of a text.
use Rattle.std.proofs.Common.{◌≡◌, ℕ, zero, suc, ◌+◌, ◌<◌, Bool, true, false, List, [], ◌∷◌, ◌++◌, length, take, drop, Option, Some, None, refl, ◌∙◌, ap, arith, if◌then◌else◌}
use Rattle.std.specs.Option.{option_map, option_or}
use Rattle.std.proofs.lemmas.Bool.{false_from_ne_true}
use Rattle.link_graph.specs.Inner.Searching.{Holds, Nowhere}
use Rattle.link_graph.specs.Reading.{is_comma, at_last_comma}

-- the last comma, from what is found behind the first byte and whether that byte is one
abbrev led_comma : ℕ → List ℕ → Option (List ℕ × List ℕ) → Bool → Option (List ℕ × List ℕ)
led_comma c text o b = option_or (option_map (λ found. (c ∷ found.0, found.1)) o) (if b then Some ([], text) else None)

-- a text without a comma
pub at_last_comma-none : (text : List ℕ) → Nowhere 44 text 0 (length text) → at_last_comma text ≡ None
unfolding at_last_comma
at_last_comma-none [] none = refl
at_last_comma-none (c ∷ text) none =
    let first : is_comma c ≡ false = false_from_ne_true _ (none 0 (omega arith) (omega arith)) in
    let others : at_last_comma text ≡ None = at_last_comma-none text (λ k low high. none (suc k) (omega arith) (omega (arith, high))) in
    cc

-- a comma at this place and none behind it
pub at_last_comma-at : (text : List ℕ) (k : ℕ) → k < length text → Nowhere 44 text (k + 1) (length text) → Holds 44 text k
    → at_last_comma text ≡ Some (take k text, drop (suc k) text)
unfolding at_last_comma
at_last_comma-at [] k fits none here = absurd (omega (arith, fits))
at_last_comma-at (c ∷ text) zero fits none here =
    let others : at_last_comma text ≡ None = at_last_comma-none text (λ k low high. none (suc k) (omega arith) (omega (arith, high))) in
    ap (λ o. led_comma c text o (is_comma c)) others
    ∙ ap (led_comma c text None) here
at_last_comma-at (c ∷ text) (suc k) fits none here = grind (arith, at_last_comma-at text k (omega (arith, fits)) (λ i low high. none (suc i) (omega (arith, low)) (omega (arith, high))) here)

last_parts : (c : ℕ) (text : List ℕ) (o : Option (List ℕ × List ℕ)) (b : Bool) (front rest : List ℕ) → ((front rest : List ℕ) → o ≡ Some (front, rest) → text ≡ front ++ 44 ∷ rest)
    → is_comma c ≡ b → led_comma c text o b ≡ Some (front, rest) → c ∷ text ≡ front ++ 44 ∷ rest
last_parts c text o b front rest others e h = grind arith

-- what is found stands on both sides of a comma
pub at_last_comma-parts : (text front rest : List ℕ) → at_last_comma text ≡ Some (front, rest) → text ≡ front ++ 44 ∷ rest
unfolding at_last_comma
at_last_comma-parts [] front rest h = cc
at_last_comma-parts (c ∷ text) front rest h = last_parts c text (at_last_comma text) (is_comma c) front rest (λ front rest. at_last_comma-parts text front rest) refl h

-- a comma behind which there is none
pub at_last_comma-from : (front rest : List ℕ) → at_last_comma rest ≡ None → at_last_comma (front ++ 44 ∷ rest) ≡ Some (front, rest)
unfolding at_last_comma
at_last_comma-from [] rest none = ap (λ o. led_comma 44 rest o true) none
at_last_comma-from (c ∷ front) rest none = grind (arith, at_last_comma-from front rest none)

-- a byte that is no comma, in front of a text without one
pub at_last_comma-more : (c : ℕ) (text : List ℕ) → is_comma c ≡ false → at_last_comma text ≡ None → at_last_comma (c ∷ text) ≡ None
unfolding at_last_comma
at_last_comma-more c text first others = ap (λ o. led_comma c text o (is_comma c)) others ∙ ap (led_comma c text None) first
