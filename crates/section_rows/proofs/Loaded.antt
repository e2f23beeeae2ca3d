-- Rows that are loaded one after another.
use Rattle.std.proofs.Common.{◌≡◌, ℕ, ◌+◌, ◌<◌, ◌≤◌, List, [], ◌∷◌, ◌++◌, length, take, drop, map, get_or, None, All, sym, ◌∙◌, ap, subst, arith}
use Rattle.std.specs.Prelude.{Err, Ok, OnOk, Result}
use Rattle.std.proofs.lemmas.List.{drop-map, map-append, map_more, take-map}
use Rattle.std.proofs.lemmas.List.Sums.{sum_by_push, sum_by-take-le}
use Rattle.dump_io.specs.Dumps.{Now, told}
use Rattle.dump_io.specs.Laws.Lists.{All-images}
use Rattle.dump_sections.specs.Bodies.{section_at, body_length, IsBodyOf, body_of}
use Rattle.dump_sections.specs.Index.{Contents}
use Rattle.dump_sections.specs.Sections.{Section}
use Rattle.section_rows.specs.declared.store.Store.{Store}
use Rattle.section_rows.specs.Rows.{Column, Row, row_of, rows_of}
use Rattle.dump_sections.specs.Loading.{sections_at, bodies_length, large_fault}
use Rattle.dump_sections.specs.LoadingLaws.{All-small}
use Rattle.section_rows.specs.Inner.Gains.{GainsRow, HoldsRows}
use Rattle.section_rows.specs.Inner.Places.{rows_in}

-- the body of a section is told with what is open
told_body : (now : Now) (s : Section) (body bytes : List ℕ) → IsBodyOf now s body → now ≡ told bytes → body ≡ body_of bytes s
told_body now s body bytes is same = let told_is : IsBodyOf (told bytes) s body = subst (λ (n : Now). IsBodyOf n s body) same is in told_is.told

pub HoldsRows-more : (now : Now) (columns : List Column) (sections : List Section) (s : Section) (before after : Store)
    → HoldsRows now columns sections before → GainsRow now columns s before after → HoldsRows now columns (sections ++ s ∷ []) after
HoldsRows-more now columns sections s before after holds gains = record {
  within = gains.gained.within;
  shown = record {
    width = gains.gained.width ∙ holds.shown.width;
    places =
        ap (map (λ (row : Row). row.at)) gains.gained.rows ∙ map-append (λ (row : Row). row.at) (rows_in before) (row_of columns s gains.body ∷ [])
        ∙ ap (λ places. places ++ s.at ∷ []) holds.shown.places ∙ sym (map-append (λ (t : Section). t.at) sections (s ∷ []));
    rows = λ bytes same.
        gains.gained.rows ∙ ap (λ rows. rows ++ row_of columns s gains.body ∷ []) (holds.shown.rows bytes same)
        ∙ ap (λ body. rows_of bytes columns sections ++ row_of columns s body ∷ []) (told_body now s gains.body bytes gains.is_body same)
        ∙ sym (map-append (λ (t : Section). row_of columns t (body_of bytes t)) sections (s ∷ []));
  };
}

-- one section more
module _ (index : Contents) (places : List ℕ) (i d : ℕ) (inside : i < length places) where
  pub sections-more : sections_at index (take (i + 1) places) ≡ sections_at index (take i places) ++ section_at index (get_or places i d) ∷ []
  sections-more = map_more (section_at index) places i d inside

  pub bodies-more : bodies_length (sections_at index (take (i + 1) places)) ≡ bodies_length (sections_at index (take i places)) + body_length (section_at index (get_or places i d))
  bodies-more = ap bodies_length sections-more ∙ sum_by_push body_length (sections_at index (take i places)) (section_at index (get_or places i d))

  -- its body is among all
  pub bodies-upto : bodies_length (sections_at index (take i places)) + body_length (section_at index (get_or places i d)) ≤ bodies_length (sections_at index places)
  bodies-upto =
      omega (arith, bodies-more, ap bodies_length (take-map (section_at index) (i + 1) places), sum_by-take-le body_length (sections_at index places) (i + 1))

-- where no section is refused, none is too large
pub All-within : (index : Contents) (limit : ℕ) (places : List ℕ) → large_fault limit (sections_at index places) ≡ None → All (λ i. body_length (section_at index i) ≤ limit) places
All-within index limit places none = All-images (λ s. body_length s ≤ limit) (section_at index) places (All-small limit (sections_at index places) none)

pub on-ok : {T E P : Type 0} (r : Result T E) → P → OnOk r P
on-ok (Ok value) p = p
on-ok (Err fault) p = tt

-- the first of some cells are those of the first columns, and the others those of the others
module _ {X Y Z C : Type 0} (shown : X → Z) (cell : C → Z) (column : Y → C) (cells : List X) (columns : List Y) (n : ℕ) (all : map shown cells ≡ map cell (map column columns)) where
  pub fronts-shown : (fronts : List X) → fronts ≡ take n cells → map shown fronts ≡ map cell (take n (map column columns))
  fronts-shown fronts are = ap (map shown) are ∙ sym (take-map shown n cells) ∙ ap (take n) all ∙ take-map cell n (map column columns)

  pub others-shown : (others : List X) → others ≡ drop n cells → map shown others ≡ map cell (drop n (map column columns))
  others-shown others are = ap (map shown) are ∙ sym (drop-map shown n cells) ∙ ap (drop n) all ∙ drop-map cell n (map column columns)
