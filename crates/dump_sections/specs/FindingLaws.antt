-- Laws of the definitions, each with its proof, for the proofs of callers: the first section that passes a test, by its place.
use Rattle.std.proofs.Common.{◌≡◌, ℕ, Bool, true, false, List, [], length, Option, None, Some, sym, ◌∙◌, ap, inl, inr}
use Rattle.dump_sections.specs.Index.{Contents, sections_in}
use Rattle.dump_sections.specs.Sections.{Section, section}
use Rattle.dump_sections.specs.Bodies.{section_in}
use Rattle.std.specs.Prelude.{cond, find, nat_lt, position}
use Rattle.std.specs.List.{slice_get, position_or_len}
use Rattle.std.specs.Option.{unwrap_or}
use Rattle.std.proofs.lemmas.Bool.{lt-ltb}
use Rattle.std.proofs.lemmas.List.Folds.{find_at}
use Rattle.std.proofs.lemmas.List.Quantifiers.{position-Some}
use Rattle.std.proofs.lemmas.Option.{slice_get_cases, slice_get-get_or, unwrap_or-slice_get}

chosen : (b : Bool) (n i : ℕ) → cond b (Some n) None ≡ Some i → n ≡ i
chosen true n i is = cc (is)
chosen false n i is = absurd (let no : ⊥ = cc (is) in no)

-- what stands at the place that was found
pub found-at : {X : Type 0} (p : X → Bool) (xs : List X) (i : ℕ) (d : X) → position p xs ≡ Some i → find p xs ≡ Some (unwrap_or (slice_get xs i) d)
found-at p xs i d is =
    let n = position_or_len p xs in
    let same : n ≡ i = chosen (nat_lt n (length xs)) n i is in
    find_at p xs ∙ ap (slice_get xs) same ∙ slice_get-get_or xs i d (position-Some p xs i d is).0 ∙ ap Some (sym (unwrap_or-slice_get xs i d))

-- where no place was found there is none
pub not-found : {X : Type 0} (p : X → Bool) (xs : List X) → position p xs ≡ None → find p xs ≡ None
not-found p xs is =
    let n = position_or_len p xs in
    find_at p xs ∙ elim (slice_get_cases xs n).1 [
      | inl q ↦ absurd (let no : ⊥ = cc (ap (λ b. cond b (Some n) None) (lt-ltb n (length xs) q.1), is) in no)
      | inr q ↦ q.1
    ]

-- the section at the first place of a test is the first section that passes it
pub section-found : (p : Section → Bool) (index : Contents) (place : Option ℕ) → position p (sections_in index) ≡ place → section_in index place ≡ find p (sections_in index)
section-found p index None is = sym (not-found p (sections_in index) is)
section-found p index (Some i) is = sym (found-at p (sections_in index) i (section 0 0 0 []) is)
