-- The first sections of a tag are found one section after another.
use Rattle.std.proofs.Common.{◌≡◌, ℕ, ◌<◌, List, [], ◌∷◌, ◌++◌, length, None, Some, sym, ◌∙◌, ap, subst, if◌then◌else◌}
use Rattle.std.specs.Prelude.{IfSome}
use Rattle.std.specs.Option.{option_or}
use Rattle.std.specs.Ordering.{is_eq}
use Rattle.std.proofs.lemmas.Map.Text.{is_eq-slice_cmp}
use denote.Ref.{Bor}
use Rattle.dump_io.specs.Laws.Lists.{position-within}
use Rattle.dump_sections.specs.Laws.{first-more, first-passed}
use Rattle.dump_sections.specs.Lookups.{is_named, place_where}
use Rattle.dump_sections.specs.Sections.{Section}
use Rattle.dump_sections.specs.PlaceLaws.{place_by-more}
use Rattle.dump_sections.specs.Inner.Places.{AreFirsts, id_cmp, id_with}

-- a section without the tag, or without an id, is passed over
pub AreFirsts-passed : (tag : List ℕ) (places : List (Bor (List ℕ) × ℕ)) (before : List Section) (s : Section) → AreFirsts tag before places
    → id_with tag s ≡ None → AreFirsts tag (before ++ s ∷ []) places
AreFirsts-passed tag places before s are none id = are id ∙ sym (first-passed tag before s id.now none)

-- another is taken
pub AreFirsts-more : (tag : List ℕ) (places : List (Bor (List ℕ) × ℕ)) (before : List Section) (s : Section) (here : Bor (List ℕ)) → AreFirsts tag before places
    → id_with tag s ≡ Some here.now → AreFirsts tag (before ++ s ∷ []) (places ++ (here, length before) ∷ [])
AreFirsts-more tag places before s here are is id =
    place_by-more id_cmp id places here (length before)
    ∙ ap (λ o. option_or o (if is_eq (id_cmp here id) then Some (length before) else None)) (are id)
    ∙ ap (λ b. option_or (place_where (is_named tag (Some id.now)) before) (if b then Some (length before) else None)) (is_eq-slice_cmp here.now id.now)
    ∙ sym (first-more tag before s here.now id.now is)

-- a place that is found is that of a section
pub first-within : (tag : List ℕ) (sections : List Section) (size : ℕ) (id : List ℕ) → length sections ≡ size
    → IfSome (place_where (is_named tag (Some id)) sections) (λ i. i < size)
first-within tag sections size id is =
    subst (λ n. IfSome (place_where (is_named tag (Some id)) sections) (λ i. i < n)) is (position-within (λ section. is_named tag (Some id) section.text) sections)
