-- Sections that pass a test, such as those of a table, are listed one after another.
use Rattle.std.proofs.Common.{◌≡◌, ℕ, ◌+◌, ◌<◌, Bool, true, false, cond, List, [], ◌∷◌, ◌++◌, length, take, map, filter, slice_get, unwrap_or, Some, All, sym, ◌∙◌, ap, subst}
use Rattle.std.proofs.lemmas.List.{append-nil, take_more, map-append}
use Rattle.std.proofs.lemmas.List.Elements.{All-push, filter-append}
use Rattle.std.proofs.lemmas.Option.{get_or_from_slice_get, slice_get_within}
use Rattle.dump_sections.specs.Bodies.{section_at}
use Rattle.dump_sections.specs.Index.{Contents, sections_in}
use Rattle.dump_sections.specs.Sections.{Section, section}

-- the places that are found among the first sections of an index
abbrev pub AreListed : (Section → Bool) → Contents → List ℕ → ℕ → Type 0
AreListed test index places i = record {
  listed : map (section_at index) places ≡ filter test (take i (sections_in index));
  within : All (λ place. place < length index.headers) places;
}

module _ (test : Section → Bool) (index : Contents) (places : List ℕ) (i : ℕ) (s : Section) (at : slice_get (sections_in index) i ≡ Some s)
    (before : AreListed test index places i) where
  more : filter test (take (i + 1) (sections_in index)) ≡ filter test (take i (sections_in index)) ++ cond (test s) (s ∷ []) []
  more =
      ap (filter test) (take_more (sections_in index) i s (slice_get_within (sections_in index) i s at))
      ∙ ap (λ x. filter test (take i (sections_in index) ++ x ∷ [])) (get_or_from_slice_get (sections_in index) i s s at)
      ∙ filter-append test (take i (sections_in index)) (s ∷ [])

  pub AreListed-passed : test s ≡ false → AreListed test index places (i + 1)
  AreListed-passed other = record {
    listed = before.listed ∙ sym (more ∙ ap (λ b. filter test (take i (sections_in index)) ++ cond b (s ∷ []) []) other ∙ append-nil (filter test (take i (sections_in index))));
    within = before.within;
  }

  pub AreListed-found : (after : List ℕ) → test s ≡ true → i < length index.headers → after ≡ places ++ i ∷ [] → AreListed test index after (i + 1)
  AreListed-found after own inside is = record {
    listed =
        ap (map (section_at index)) is ∙ map-append (section_at index) places (i ∷ [])
        ∙ ap (λ l. l ++ section_at index i ∷ []) before.listed
        ∙ ap (λ x. filter test (take i (sections_in index)) ++ unwrap_or x (section 0 0 0 []) ∷ []) at
        ∙ sym (more ∙ ap (λ b. filter test (take i (sections_in index)) ++ cond b (s ∷ []) []) own);
    within = subst (All (λ place. place < length index.headers)) (sym is) (All-push (λ place. place < length index.headers) places i before.within inside);
  }
