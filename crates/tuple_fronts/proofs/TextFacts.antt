-- Texts in one pool.
use Rattle.std.proofs.Common.{◌≡◌, ℕ, ◌+◌, List, [], ◌∷◌, ◌++◌, length, refl, ◌∙◌, ap₂}
use Rattle.std.specs.Prelude.{All, slice_range}
use Rattle.std.proofs.lemmas.List.{map-append}
use Rattle.std.proofs.lemmas.List.Elements.{All-head, All-tail}
use Rattle.dump_io.specs.Laws.Lists.{between-grown, range-last}
use Rattle.tuple_fronts.specs.Inner.Texts.{text_in, shown_texts, AreWithin, IsWithin}
use Rattle.tuple_fronts.specs.declared.texts.Span.{Span}

-- more behind a pool changes none of its texts
texts-kept : (pool more : List ℕ) (spans : List Span) → All (IsWithin (length pool)) spans → shown_texts (pool ++ more) spans ≡ shown_texts pool spans
texts-kept pool more [] within = refl
texts-kept pool more (span ∷ spans) within =
    let here = All-head (IsWithin (length pool)) span spans within in
    ap₂ (λ text texts. text ∷ texts) (between-grown pool more span.from span.upto here.ordered here.within)
    (texts-kept pool more spans (All-tail (IsWithin (length pool)) span spans within))

-- one more text
pub texts-pushed : (pool text : List ℕ) (spans : List Span) (from upto : ℕ) → AreWithin pool spans → from ≡ length pool → upto ≡ length pool + length text
    → shown_texts (pool ++ text) (spans ++ (let span : Span = record { from = from; upto = upto } in span) ∷ []) ≡ shown_texts pool spans ++ text ∷ []
texts-pushed pool text spans from upto within from_is upto_is =
    let span : Span = record { from = from; upto = upto } in
    map-append (text_in (pool ++ text)) spans (span ∷ [])
    ∙ ap₂ (λ texts last. texts ++ last ∷ []) (texts-kept pool text spans within)
    (ap₂ (λ a b. slice_range (pool ++ text) a b) from_is upto_is ∙ range-last pool text)
