-- Elements joined by commas, as they are read.
use Rattle.std.proofs.Common.{◌≡◌, ℕ, zero, suc, ◌-◌, ◌<◌, ◌≤◌, ◌==◌, true, List, [], ◌∷◌, length, Option, Some, None, refl, sym, ◌∙◌, ap, arith}
use Rattle.std.specs.Option.{is_some, option_and_then, unwrap_or}
use Rattle.term_forms.specs.Words.{comma}
use Rattle.term_forms.specs.Laws.Texts.{whole_of-some}
use Rattle.term_forms.specs.Reading.{whole_of, ◌>>=◌}
use Rattle.term_forms.specs.ReadingForms.{until_of, joined_of, joined_list, with_first}
use Rattle.term_forms.specs.Elements.{Element}
use Rattle.std.proofs.lemmas.List.{length-append}
use Rattle.term_forms.proofs.Steps.{bind_some}
use Rattle.term_forms.proofs.FormParts.{until_sound}

-- the one element of a list is the whole text
pub joined_one : (text : List ℕ) → joined_of 1 text ≡ (whole_of text >>= λ e. Some (e ∷ []))
unfolding joined_of
joined_one text = refl

-- a list of several is its first element, a comma and the others
pub joined_several : (count : ℕ) (text : List ℕ) → 1 < count → joined_of count text ≡ with_first (count - 1) (until_of comma text)
unfolding joined_of with_first
joined_several zero text h = absurd (omega (arith, h))
joined_several (suc zero) text h = absurd (omega (arith, h))
joined_several (suc (suc n)) text h =
    let e : suc n ≡ suc (suc n) - 1 = omega arith in
    ap (λ k. with_first k (until_of comma text)) e

pub joined_nothing : (text : List ℕ) → is_some (joined_of 0 text) ≡ (length text == 0)
unfolding joined_of
joined_nothing [] = refl
joined_nothing (c ∷ text) = grind arith

-- whether there are others decides
pub with_first_some : (left : ℕ) (e : Element) (rest : List ℕ) → is_some (with_first left (Some (e, rest))) ≡ is_some (joined_of left rest)
unfolding with_first
with_first_some left e rest = of (joined_of left rest)
  where
    of : (o : Option (List Element)) → is_some (o >>= λ es. Some (e ∷ es)) ≡ is_some o
    of None = refl
    of (Some es) = refl

pub with_first_last : (e : Element) → with_first 0 (Some (e, [])) ≡ Some (e ∷ [])
unfolding with_first joined_of
with_first_last e = refl

-- as many elements are read as were asked for
pub joined_length : (count : ℕ) (text : List ℕ) (es : List Element) → joined_of count text ≡ Some es → length es ≡ count
unfolding joined_of
joined_length zero [] es h = let e : [] ≡ es = cc in ap length (sym e)
joined_length zero (c ∷ text) es h = cc
joined_length (suc zero) text es h =
    let found = bind_some (whole_of text) (λ e. Some (e ∷ [])) es h in
    let e : found.0 ∷ [] ≡ es = cc in
    ap length (sym e)
joined_length (suc (suc n)) text es h =
    let first = bind_some (until_of comma text) (λ found. joined_of (suc n) found.1 >>= λ es. Some (found.0 ∷ es)) es h in
    let others = bind_some (joined_of (suc n) first.0.1) (λ es. Some (first.0.0 ∷ es)) es first.2 in
    let e : first.0.0 ∷ others.0 ≡ es = cc in
    let k : length others.0 ≡ suc n = joined_length (suc n) first.0.1 others.0 others.1 in
    ap length (sym e) ∙ ap suc k

pub with_first_none : (left : ℕ) → with_first left None ≡ None
unfolding with_first
with_first_none left = refl

pub with_first_is : (left : ℕ) (e : Element) (rest : List ℕ) → with_first left (Some (e, rest)) ≡ option_and_then (λ es. Some (e ∷ es)) (joined_of left rest)
unfolding with_first
with_first_is left e rest = refl

-- an `Elems` has as many elements as it counts
pub joined_list_length : (count : ℕ) (text : List ℕ) → is_some (joined_of count text) ≡ true → length (joined_list count text) ≡ count
joined_list_length count text h = of (joined_of count text) refl h
  where
    of : (o : Option (List Element)) → joined_of count text ≡ o → is_some o ≡ true → length (unwrap_or o []) ≡ count
    of None e h = cc
    of (Some es) e h = joined_length count text es e

pub joined_list_none : (text : List ℕ) → joined_list 0 text ≡ []
unfolding joined_of
joined_list_none [] = refl
joined_list_none (c ∷ text) = refl

-- the list of the elements is the first of them and the others
pub joined_list_first : (count left : ℕ) (text : List ℕ) (e : Element) (rest : List ℕ) → joined_of count text ≡ with_first left (Some (e, rest))
    → is_some (joined_of count text) ≡ true → joined_list count text ≡ e ∷ joined_list left rest
unfolding with_first
joined_list_first count left text e rest split h = ap (λ o. unwrap_or o []) split ∙ of (joined_of left rest) (sym (ap is_some split) ∙ h)
  where
    of : (o : Option (List Element)) → is_some (o >>= λ es. Some (e ∷ es)) ≡ true → unwrap_or (o >>= λ es. Some (e ∷ es)) [] ≡ e ∷ unwrap_or o []
    of None h = cc
    of (Some es) h = refl

-- ---- there are no more elements than bytes

until_shorter : (stop : ℕ) (text : List ℕ) (e : Element) (rest : List ℕ) → until_of stop text ≡ Some (e, rest) → length rest < length text
until_shorter stop text e rest h =
    let is = until_sound stop text e rest h in
    omega (arith, ap length is.1, length-append is.0 (stop ∷ rest))

pub joined_within : (count : ℕ) (text : List ℕ) (es : List Element) → joined_of count text ≡ Some es → count ≤ length text
unfolding joined_of
joined_within zero text es h = omega arith
joined_within (suc zero) text es h =
    let found = bind_some (whole_of text) (λ e. Some (e ∷ [])) es h in
    let some = whole_of-some text found.0 found.1 in
    omega (arith, some)
joined_within (suc (suc n)) text es h =
    let first = bind_some (until_of comma text) (λ found. joined_of (suc n) found.1 >>= λ es. Some (found.0 ∷ es)) es h in
    let others = bind_some (joined_of (suc n) first.0.1) (λ es. Some (first.0.0 ∷ es)) es first.2 in
    let fewer = joined_within (suc n) first.0.1 others.0 others.1 in
    let shorter = until_shorter comma text first.0.0 first.0.1 first.1 in
    omega (arith, fewer, shorter)

pub joined_few : (count : ℕ) (text : List ℕ) → is_some (joined_of count text) ≡ true → count ≤ length text
joined_few count text h = of (joined_of count text) refl h
  where
    of : (o : Option (List Element)) → joined_of count text ≡ o → is_some o ≡ true → count ≤ length text
    of None e h = cc
    of (Some es) e h = joined_within count text es e
