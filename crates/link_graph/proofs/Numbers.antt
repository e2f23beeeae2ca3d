-- A text is cut at its first dot where it begins with digits and a dot.
use Rattle.std.proofs.Common.{◌≡◌, ℕ, zero, suc, ◌+◌, ◌<◌, ◌≤◌, Bool, true, false, cond, not, ◌&&◌, List, [], ◌∷◌, length, take, drop, get_or, Option, Some, None, refl, ◌∙◌, ap, position, arith, if◌then◌else◌}
use Rattle.std.specs.Prelude.{nat_lt}
use Rattle.std.specs.List.{list_all}
use Rattle.std.specs.Option.{option_map, option_map_or}
use Rattle.std.specs.Char.{is_ascii_digit}
use Rattle.std.proofs.lemmas.Bool.{eqb-true}
use Rattle.dump_io.specs.Numbers.{is_digits}
use Rattle.link_graph.specs.Texts.{is_dot, at_first_dot, is_pair, is_triple}
use Rattle.link_graph.specs.Inner.Numbers.{behind_digits, behind_number}

lt_first : (n : ℕ) → nat_lt 0 (suc n) ≡ true
lt_first n = grind arith

-- the first place at which a test passes, by the first element
position-first : {X : Type 0} (test : X → Bool) (x : X) (xs : List X) → position test (x ∷ xs) ≡ cond (test x) (Some 0) (option_map suc (position test xs))
position-first test x xs = grind arith

-- what a test says of what stands before and behind a place
abbrev at_place : (List ℕ → List ℕ → Bool) → List ℕ → Option ℕ → Bool
at_place test text None = false
at_place test text (Some at) = test (take at text) (drop (suc at) text)

abbrev both_pass : (List ℕ → List ℕ → Bool) → List ℕ × List ℕ → Bool
both_pass test found = test found.0 found.1

at_dot : (test : List ℕ → List ℕ → Bool) (text : List ℕ) → option_map_or (both_pass test) (at_first_dot text) false ≡ at_place test text (position is_dot text)
unfolding at_first_dot
at_dot test text = grind arith

at_later : (test : List ℕ → List ℕ → Bool) (c : ℕ) (text : List ℕ) (o : Option ℕ) → at_place test (c ∷ text) (option_map suc o) ≡ at_place (λ front rest. test (c ∷ front) rest) text o
at_later test c text o = grind arith

-- what is said of both sides of the first dot, by the first byte
at_dot-first : (test : List ℕ → List ℕ → Bool) (c : ℕ) (text : List ℕ)
    → at_place test (c ∷ text) (position is_dot (c ∷ text)) ≡ cond (is_dot c) (test [] text) (at_place (λ front rest. test (c ∷ front) rest) text (position is_dot text))
at_dot-first test c text = ap (at_place test (c ∷ text)) (position-first is_dot c text) ∙ of (is_dot c)
  where
    of : (b : Bool) → at_place test (c ∷ text) (cond b (Some 0) (option_map suc (position is_dot text)))
        ≡ cond b (test [] text) (at_place (λ front rest. test (c ∷ front) rest) text (position is_dot text))
    of true = refl
    of false = at_later test c text (position is_dot text)

-- nothing is said where nothing is
at_none : (text : List ℕ) (o : Option ℕ) → at_place (λ front rest. false) text o ≡ false
at_none text o = grind arith

-- what is said by two tests that agree
at_same : (test other : List ℕ → List ℕ → Bool) → ((front rest : List ℕ) → test front rest ≡ other front rest) → (text : List ℕ) (o : Option ℕ)
    → at_place test text o ≡ at_place other text o
at_same test other same text o = grind arith

digits_first : (c : ℕ) (front : List ℕ) → is_digits (c ∷ front) ≡ list_all is_ascii_digit (c ∷ front)
digits_first c front = ap (λ b. b && list_all is_ascii_digit (c ∷ front)) (lt_first (length front))

-- a dot is no digit
digit_of : (c : ℕ) → is_dot c ≡ true → is_ascii_digit c ≡ false
digit_of c e = ap is_ascii_digit (eqb-true c 46 e)

module _ (rest_test : List ℕ → Bool) where
  -- digits before the first dot are all before it
  digits_at : (text : List ℕ) → at_place (λ front rest. list_all is_ascii_digit front && rest_test rest) text (position is_dot text) ≡ option_map_or rest_test (behind_digits text) false
  digits_at [] = refl
  digits_at (c ∷ text) = grind (arith, digits_at text, at_dot-first)

  -- a number before the first dot is one before all others
  number_at : (text : List ℕ) → at_place (λ front rest. is_digits front && rest_test rest) text (position is_dot text) ≡ option_map_or rest_test (behind_number text) false
  number_at [] = refl
  number_at (c ∷ text) =
      let same = at_same (λ front rest. is_digits (c ∷ front) && rest_test rest) (λ front rest. list_all is_ascii_digit (c ∷ front) && rest_test rest)
      (λ front rest. ap (λ b. b && rest_test rest) (digits_first c front)) text (position is_dot text) in
      grind (arith, same, at_dot-first, digits_at text, at_none)

pub pair_by_number : (text : List ℕ) → is_pair text ≡ option_map_or is_digits (behind_number text) false
unfolding is_pair
pair_by_number text = at_dot (λ front rest. is_digits front && is_digits rest) text ∙ number_at is_digits text

pub triple_by_number : (text : List ℕ) → is_triple text ≡ option_map_or is_pair (behind_number text) false
unfolding is_triple
triple_by_number text = at_dot (λ front rest. is_digits front && is_pair rest) text ∙ number_at is_pair text

-- ---- a text whose first byte that is no digit is found

-- what stands behind the dot at a place
abbrev dot_at : List ℕ → Option ℕ → Option (List ℕ)
dot_at text None = None
dot_at text (Some at) = if is_dot (get_or text at 0) then Some (drop (suc at) text) else None

dot_later : (c : ℕ) (text : List ℕ) (o : Option ℕ) → dot_at (c ∷ text) (option_map suc o) ≡ dot_at text o
dot_later c text o = grind arith

abbrev pub is_other : ℕ → Bool
is_other c = not (is_ascii_digit c)

digits_by_place : (text : List ℕ) → behind_digits text ≡ dot_at text (position is_other text)
digits_by_place [] = refl
digits_by_place (c ∷ text) = of (digits_by_place text) (is_ascii_digit c) refl
  where
    of : behind_digits text ≡ dot_at text (position is_other text) → (b : Bool) → is_ascii_digit c ≡ b → behind_digits (c ∷ text) ≡ dot_at (c ∷ text) (position is_other (c ∷ text))
    of others true e =
        cc (dot_later c text (position is_other text), position-first is_other c text)
    of others false e =
        cc (position-first is_other c text)

-- what stands behind the dot at a place that isn't the first
abbrev number_upto : List ℕ → Option ℕ → Option (List ℕ)
number_upto text None = None
number_upto text (Some zero) = None
number_upto text (Some (suc at)) = dot_at text (Some (suc at))

number_by_place : (text : List ℕ) → behind_number text ≡ number_upto text (position is_other text)
number_by_place [] = refl
number_by_place (c ∷ text) = of (is_ascii_digit c) refl
  where
    later : (o : Option ℕ) → number_upto (c ∷ text) (option_map suc o) ≡ dot_at text o
    later None = refl
    later (Some at) = refl

    of : (b : Bool) → is_ascii_digit c ≡ b → behind_number (c ∷ text) ≡ number_upto (c ∷ text) (position is_other (c ∷ text))
    of true e =
        cc (digits_by_place text, later (position is_other text), position-first is_other c text)
    of false e =
        cc (position-first is_other c text)

pub number_absent : (text : List ℕ) → position is_other text ≡ None → behind_number text ≡ None
number_absent text is = number_by_place text ∙ ap (number_upto text) is

pub number_empty : (text : List ℕ) (at : ℕ) → position is_other text ≡ Some at → at ≤ 0 → behind_number text ≡ None
number_empty text at is none = let first : at ≡ 0 = omega (arith, none) in number_by_place text ∙ ap (number_upto text) (is ∙ ap Some first)

number_dotted : (text : List ℕ) (at : ℕ) → 0 < at → number_upto text (Some at) ≡ dot_at text (Some at)
number_dotted text at inside = grind arith

pub number_there : (text : List ℕ) (at : ℕ) → position is_other text ≡ Some at → 0 < at → is_dot (get_or text at 0) ≡ true → behind_number text ≡ Some (drop (at + 1) text)
number_there text at is inside dot =
    let next : suc at ≡ at + 1 = omega arith in
    cc (number_by_place text, number_dotted text at inside)

pub number_ended : (text : List ℕ) (at : ℕ) → position is_other text ≡ Some at → 0 < at → is_dot (get_or text at 0) ≡ false → behind_number text ≡ None
number_ended text at is inside dot = grind (arith, number_by_place)
