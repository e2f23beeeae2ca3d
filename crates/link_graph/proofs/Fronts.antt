-- Fronts and backs of a text.
use Rattle.std.proofs.Common.{◌≡◌, ◌≢◌, ℕ, List, ◌++◌, Option, Some, None, refl, ◌∙◌, ap, arith}
use Rattle.std.specs.Prelude.{MatchOption}
use Rattle.std.specs.Option.{option_copied}
use Rattle.std.specs.Borrow.{Bor}
use Rattle.std.proofs.lemmas.Grind.{common_steps}
use Rattle.std.proofs.lemmas.Slice.Eq.{starts_is, ends_is}
use Rattle.link_graph.specs.Texts.{◌>>=◌, behind, before, inside}

-- a text that is a front and a rest
pub behind_front : (front rest : List ℕ) → behind front (front ++ rest) ≡ Some rest
unfolding behind
behind_front front rest = grind (arith, common_steps, starts_is)

pub behind_parts : (front text rest : List ℕ) → behind front text ≡ Some rest → text ≡ front ++ rest
unfolding behind
behind_parts front text rest h = grind (arith, starts_is)

pub behind_none : (front text : List ℕ) → ((rest : List ℕ) → text ≢ front ++ rest) → behind front text ≡ None
behind_none front text none = of (behind front text) refl
  where
    of : (o : Option (List ℕ)) → behind front text ≡ o → behind front text ≡ None
    of None e = e
    of (Some rest) e = absurd (none rest (behind_parts front text rest e))

-- a text that is a rest and a back
pub before_back : (back rest : List ℕ) → before back (rest ++ back) ≡ Some rest
unfolding before
before_back back rest = grind (arith, common_steps, ends_is)

pub before_parts : (back text rest : List ℕ) → before back text ≡ Some rest → text ≡ rest ++ back
unfolding before
before_parts back text rest h = grind (arith, ends_is)

pub before_none : (back text : List ℕ) → ((rest : List ℕ) → text ≢ rest ++ back) → before back text ≡ None
before_none back text none = of (before back text) refl
  where
    of : (o : Option (List ℕ)) → before back text ≡ o → before back text ≡ None
    of None e = e
    of (Some rest) e = absurd (none rest (before_parts back text rest e))

-- what strips a front or a back answers so
pub behind_is : (front text : List ℕ) (result : Option (Bor (List ℕ))) → MatchOption result ((rest : List ℕ) → text ≢ front ++ rest) (λ rest. text ≡ front ++ rest.now) → option_copied result ≡ behind front text
behind_is front text result none = grind (arith, behind_none, behind_front)

pub before_is : (back text : List ℕ) (result : Option (Bor (List ℕ))) → MatchOption result ((rest : List ℕ) → text ≢ rest ++ back) (λ rest. text ≡ rest.now ++ back) → option_copied result ≡ before back text
before_is back text result none = grind (arith, before_none, before_back)

-- a text that stands between a front and a back
pub inside_around : (front back inner : List ℕ) → inside front back (front ++ (inner ++ back)) ≡ Some inner
unfolding inside
inside_around front back inner = ap (λ o. o >>= before back) (behind_front front (inner ++ back)) ∙ before_back back inner

pub inside_parts : (front back text inner : List ℕ) → inside front back text ≡ Some inner → text ≡ front ++ (inner ++ back)
unfolding inside
inside_parts front back text inner h = grind (arith, behind_parts, before_parts)
