-- Targets in one pool.
use Rattle.std.proofs.Common.{◌≡◌, ℕ, List, [], ◌∷◌, ◌++◌, length, Option, None, Some, refl, ◌∙◌, ap, ap₂}
use Rattle.std.specs.Prelude.{slice_range}
use Rattle.std.proofs.lemmas.List.{map-append}
use Rattle.std.proofs.lemmas.List.Elements.{All-head, All-tail}
use Rattle.dump_io.specs.Laws.Lists.{between-grown, range-last}
use Rattle.wait_requests.specs.Inner.Pools.{shown_targets, target_in, AreWithin, IsBehind, IsWithin}
use Rattle.wait_requests.specs.declared.targets.Span.{Span}

-- ---- more behind a pool changes none of its targets

target-kept : (texts more : List ℕ) (span : Option Span) → IsWithin (length texts) span → target_in (texts ++ more) span ≡ target_in texts span
target-kept texts more None within = refl
target-kept texts more (Some span) within = ap Some (between-grown texts more span.from span.upto (within.ordered span refl) (within.within span refl))

targets-kept : (texts more : List ℕ) (spans : List (Option Span)) → AreWithin texts spans → shown_targets (texts ++ more) spans ≡ shown_targets texts spans
targets-kept texts more [] within = refl
targets-kept texts more (span ∷ spans) within =
    ap₂ (λ target targets. target ∷ targets) (target-kept texts more span (All-head (IsWithin (length texts)) span spans within))
    (targets-kept texts more spans (All-tail (IsWithin (length texts)) span spans within))

-- ---- one more target

pub target-pushed : (texts text : List ℕ) (spans : List (Option Span)) (span : Span) → AreWithin texts spans → IsBehind texts text span
    → shown_targets (texts ++ text) (spans ++ Some span ∷ []) ≡ shown_targets texts spans ++ Some text ∷ []
target-pushed texts text spans span within behind =
    map-append (target_in (texts ++ text)) spans (Some span ∷ [])
    ∙ ap₂ (λ targets last. targets ++ Some last ∷ []) (targets-kept texts text spans within)
    (ap₂ (λ a b. slice_range (texts ++ text) a b) behind.from behind.upto ∙ range-last texts text)
