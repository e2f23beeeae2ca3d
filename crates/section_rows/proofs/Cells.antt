-- Cells that are put one behind another.
use Rattle.std.proofs.Common.{◌≡◌, ℕ, zero, suc, ◌+◌, ◌<◌, ◌≤◌, List, [], ◌∷◌, ◌++◌, length, take, drop, slice_get, get_or, Option, None, Some, refl, sym, ◌∙◌, ap, arith, append_assoc, length-append, drop-drop}
use Rattle.std.proofs.lemmas.List.Elements.{All-nil, All-append}
use Rattle.std.proofs.lemmas.List.{append-nil, drop-append-le, take-append-le, length-drop}
use Rattle.std.proofs.lemmas.Option.{slice_get-get_or}
use Rattle.std.proofs.lemmas.List.Sums.{sum_by-cons, sum_by-append}
use Rattle.section_rows.specs.declared.store.Place.{Place}
use Rattle.section_rows.specs.Rows.{IsBoundedCell, Kept, kept}
use Rattle.section_rows.specs.Inner.Places.{place_len, text_len, cell_in, cells_in, Gained}

-- what stands behind the text of a cell doesn't change it
cell_in-more : (base : ℕ) (texts more : List ℕ) (place : Option Place) → place_len place ≤ length texts → cell_in base (texts ++ more) place ≡ cell_in base texts place
cell_in-more base texts more None within = refl
cell_in-more base texts more (Some place) within =
    ap (λ text. Some (kept (base + place.at) (base + place.value) text)) (take-append-le place.len texts more within)

pub cells_in-more : (base : ℕ) (texts more : List ℕ) (places : List (Option Place)) → text_len places ≤ length texts
    → cells_in base (texts ++ more) places ≡ cells_in base texts places
cells_in-more base texts more [] within = refl
cells_in-more base texts more (place ∷ places) within =
    ap (λ cell. cell ∷ cells_in base (drop (place_len place) (texts ++ more)) places) (cell_in-more base texts more place (omega (arith, sum_by-cons place_len place places)))
    ∙ ap (λ others. cell_in base texts place ∷ cells_in base others places) (drop-append-le (place_len place) texts more (omega (arith, sum_by-cons place_len place places)))
    ∙ ap (λ cells. cell_in base texts place ∷ cells)
    (cells_in-more base (drop (place_len place) texts) more places (omega (arith, length-drop (place_len place) texts, sum_by-cons place_len place places)))

pub length-cells_in : (base : ℕ) (texts : List ℕ) (places : List (Option Place)) → length (cells_in base texts places) ≡ length places
length-cells_in base texts [] = refl
length-cells_in base texts (place ∷ places) = ap suc (length-cells_in base (drop (place_len place) texts) places)

-- cells behind cells, whose texts stand behind theirs
cells_in-append : (base : ℕ) (texts more : List ℕ) (xs ys : List (Option Place)) → text_len xs ≡ length texts
    → cells_in base (texts ++ more) (xs ++ ys) ≡ cells_in base texts xs ++ cells_in base more ys
cells_in-append base [] more [] ys exact = refl
cells_in-append base (c ∷ texts) more [] ys exact = absurd (omega (arith, exact))
cells_in-append base texts more (place ∷ xs) ys exact =
    ap (λ cell. cell ∷ cells_in base (drop (place_len place) (texts ++ more)) (xs ++ ys)) (cell_in-more base texts more place (omega (arith, exact, sum_by-cons place_len place xs)))
    ∙ ap (λ others. cell_in base texts place ∷ cells_in base others (xs ++ ys)) (drop-append-le (place_len place) texts more (omega (arith, exact, sum_by-cons place_len place xs)))
    ∙ ap (λ cells. cell_in base texts place ∷ cells)
    (cells_in-append base (drop (place_len place) texts) more xs ys (omega (arith, exact, length-drop (place_len place) texts, sum_by-cons place_len place xs)))

-- the cell at a place
pub cells_in-at : (base : ℕ) (texts : List ℕ) (places : List (Option Place)) (c : ℕ) (place : Option Place) → slice_get places c ≡ Some place
    → slice_get (cells_in base texts places) c ≡ Some (cell_in base (drop (text_len (take c places)) texts) place)
cells_in-at base texts [] c place is = cc
cells_in-at base texts (first ∷ places) zero place is = let same : first ≡ place = cc in ap (λ p. Some (cell_in base texts p)) same
cells_in-at base texts (first ∷ places) (suc c) place is =
    cells_in-at base (drop (place_len first) texts) places c place is
    ∙ ap (λ ts. Some (cell_in base ts place)) (drop-drop (text_len (take c places)) (place_len first) texts)
    ∙ ap (λ n. Some (cell_in base (drop n texts) place)) (sym (sum_by-cons place_len first (take c places)))

slice_get-at : (places : List (Option Place)) (c : ℕ) (place : Option Place) → c < length places → get_or places c None ≡ place → slice_get places c ≡ Some place
slice_get-at places c place inside is = slice_get-get_or places c None inside ∙ ap Some is

-- the same where the place is read from the list
pub cells_in-read : (base : ℕ) (texts : List ℕ) (places : List (Option Place)) (c : ℕ) (place : Option Place) → c < length places → get_or places c None ≡ place
    → slice_get (cells_in base texts places) c ≡ Some (cell_in base (drop (text_len (take c places)) texts) place)
cells_in-read base texts places c place inside is = cells_in-at base texts places c place (slice_get-at places c place inside is)

pub Gained-none : (base : ℕ) (places : List (Option Place)) (pool : List ℕ) → Gained base places places pool pool []
Gained-none base places pool = record {
  places = [];
  texts = [];
  more_places = sym (append-nil places);
  more_texts = sym (append-nil pool);
  exact = refl;
  shown = refl;
  bounded = All-nil IsBoundedCell;
}

pub Gained-append : (base : ℕ) (a b c : List (Option Place)) (p q r : List ℕ) (xs ys : List (Option Kept)) → Gained base a b p q xs → Gained base b c q r ys
    → Gained base a c p r (xs ++ ys)
Gained-append base a b c p q r xs ys first second = record {
  places = first.places ++ second.places;
  texts = first.texts ++ second.texts;
  more_places = second.more_places ∙ ap (λ l. l ++ second.places) first.more_places ∙ append_assoc a first.places second.places;
  more_texts = second.more_texts ∙ ap (λ l. l ++ second.texts) first.more_texts ∙ append_assoc p first.texts second.texts;
  exact = omega (arith, sum_by-append place_len first.places second.places, first.exact, second.exact, length-append first.texts second.texts);
  shown = cells_in-append base first.texts second.texts first.places second.places first.exact ∙ ap (λ l. l ++ cells_in base second.texts second.places) first.shown ∙ ap (λ l. xs ++ l) second.shown;
  bounded = All-append IsBoundedCell xs ys first.bounded second.bounded;
}
