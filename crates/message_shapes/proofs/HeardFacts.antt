-- Messages that are kept as they are heard.
use Rattle.std.proofs.Common.{◌≡◌, ℕ, ◌<◌, List, [], ◌∷◌, ◌++◌, length, Some, refl, sym, ◌∙◌, ap, ap₂, subst, arith, length-append}
use Rattle.std.specs.Prelude.{All, slice_get, slice_index_or}
use Rattle.std.proofs.Math.ListN.{get_or-append}
use Rattle.std.proofs.lemmas.List.{map-append}
use Rattle.std.proofs.lemmas.List.Elements.{All-head, All-push, All-tail}
use Rattle.std.proofs.lemmas.Option.{get_or_from_slice_get, slice_get_within}
use Rattle.message_shapes.specs.Inner.Telling.{all_told, origin_of, told_of, AreKnown, IsKnown, IsBelow, Told, OfText}
use Rattle.message_shapes.specs.declared.heard.Found.{Found}
use Rattle.message_shapes.specs.declared.heard.Subject.{Subject}
use Rattle.message_shapes.specs.declared.heard.Subject.TheVariants as subject

text-kept : (texts more : List (List ℕ)) (i : ℕ) → i < length texts → slice_index_or (texts ++ more) i [] ≡ slice_index_or texts i []
text-kept texts more i inside = get_or-append texts more [] i inside

origin-kept : (texts more : List (List ℕ)) (s : Subject) → IsBelow (length texts) s → origin_of (texts ++ more) s ≡ origin_of texts s
origin-kept texts more (subject.Cell cell) below = refl
origin-kept texts more (subject.Text number) below = ap OfText (text-kept texts more number below)

told-kept : (texts more : List (List ℕ)) (found : List Found) → All (IsKnown texts) found → all_told (texts ++ more) found ≡ all_told texts found
told-kept texts more [] known = refl
told-kept texts more (f ∷ found) known =
    ap₂ (λ o all. (let one : Told = record { at = f.at; source = o } in one) ∷ all) (origin-kept texts more f.subject (All-head (IsKnown texts) f found known).below)
    (told-kept texts more found (All-tail (IsKnown texts) f found known))

-- more behind the texts changes none of them
below-more : (texts more : List (List ℕ)) (s : Subject) → IsBelow (length texts) s → IsBelow (length (texts ++ more)) s
below-more texts more (subject.Cell cell) below = tt
below-more texts more (subject.Text number) below = omega (arith, below, length-append texts more)

pub known-more : (texts more after : List (List ℕ)) (found : List Found) → after ≡ texts ++ more → AreKnown texts found → AreKnown after found
known-more texts more after found is known =
    subst (λ l. AreKnown l found) (sym is) (λ k d inside. record { below = below-more texts more _ (known k d inside).below })

pub known-text : (texts : List (List ℕ)) (found : List Found) (at number : ℕ) (text : List ℕ) → AreKnown texts found → slice_get texts number ≡ Some text
    → AreKnown texts (found ++ (let f : Found = record { at = at; subject = subject.Text number } in f) ∷ [])
known-text texts found at number text known is =
    All-push (IsKnown texts) found (record { at = at; subject = subject.Text number }) known (record { below = slice_get_within texts number text is })

-- one more message of which this is the shape
pub told-text : (texts more after : List (List ℕ)) (text : List ℕ) (found : List Found) (at number : ℕ) → AreKnown texts found → after ≡ texts ++ more → slice_get after number ≡ Some text
    → all_told after (found ++ (let f : Found = record { at = at; subject = subject.Text number } in f) ∷ []) ≡ all_told texts found ++ (let one : Told = record { at = at; source = OfText text } in one) ∷ []
told-text texts more after text found at number known after_is is =
    let f : Found = record { at = at; subject = subject.Text number } in
    map-append (told_of after) found (f ∷ [])
    ∙ ap₂ (λ all t. all ++ (let one : Told = record { at = at; source = OfText t } in one) ∷ [])
    (ap (λ l. all_told l found) after_is ∙ told-kept texts more found known)
    (get_or_from_slice_get after number text [] is)
