-- The first line with an address is the one that begins at its place.
use Rattle.std.proofs.Common.{◌≡◌, ◌⊎◌, inl, inr, ℕ, ◌+◌, ◌<◌, ◌≤◌, ◌==◌, true, false, cond, List, [], ◌∷◌, ◌++◌, length, drop, map, Option, None, Some, is_some, slice_get, unwrap_or, find, refl, sym, ◌∙◌, ap, drop-drop, arith}
use Rattle.std.specs.List.{filter_map, cons_option}
use Rattle.std.specs.Option.{option_map, option_and_then, option_or}
use Rattle.std.proofs.lemmas.Bool.{cases_lt}
use Rattle.std.proofs.lemmas.List.{drop_all}
use Rattle.dump_io.specs.Lines.{raw_lines, lines_from, text_of}
use Rattle.field_lines.specs.Lines.{text_line}
use Rattle.binary_payloads.specs.declared.enc.Enc.{Enc}
use Rattle.term_forms.specs.Words.{led_of}
use Rattle.body_lines.specs.Laws.{raws-behind}
use Rattle.heap_cells.specs.Cells.{Cell, cell_of, spelled_cell, line_cells}
use Rattle.heap_cells.specs.Places.{placed_line, placed_lines, place_with}
use Rattle.heap_parts.specs.Inner.Growing.{first_with}
use Rattle.heap_parts.specs.Places.{first_raw, text_cell}

-- ---- lines that are read where they stand

-- the text of the line that begins at a place of a body
abbrev pub text_at : List ℕ → ℕ → List ℕ
text_at body place = text_of (first_raw (drop place body))

-- what is read at the offset of each byte of a body is the text of the line from there on
pub record ReadsTexts (read : ℕ → List ℕ) (base : ℕ) (body : List ℕ) : Type 0 where
  pub texts : (k : ℕ) → k < length body → read (base + k) ≡ text_at body k

-- what is read where each line stands is its text
abbrev EachReads : (ℕ → List ℕ) → ℕ → ℕ → List (List ℕ) → Type 0
EachReads read base at [] = Unit {0}
EachReads read base at (raw ∷ raws) = (read (base + at) ≡ text_of raw) × EachReads read base (at + length raw) raws

each-reads : (read : ℕ → List ℕ) (base at : ℕ) (body : List ℕ) (raws : List (List ℕ)) → ((k : ℕ) → k < length body → read (base + k) ≡ text_at body k)
    → raw_lines (drop at body) ≡ raws → EachReads read base at raws
each-reads read base at body [] reads is = tt
each-reads read base at body (raw ∷ raws) reads is = (
  reads at (inside (cases_lt at (length body))) ∙ ap (λ lines. text_of (unwrap_or (slice_get lines 0) [])) is,
  each-reads read base (at + length raw) body raws reads (ap raw_lines (sym (drop-drop (length raw) at body)) ∙ raws-behind (drop at body) raw raws is),
)
  where
    inside : (at < length body) ⊎ (length body ≤ at) → at < length body
    inside (inl before) = before
    inside (inr past) = let no : [] ≡ raw ∷ raws = ap raw_lines (sym (drop_all at body past)) ∙ is in absurd (cc)

-- the cells of raw lines, the first of which is at this place
abbrev pub cells_from : Enc → ℕ → List (List ℕ) → List Cell
cells_from enc at raws = filter_map (cell_of enc) (map text_line (lines_from at raws))

-- the addresses and offsets of these lines
abbrev places_from : ℕ → ℕ → List (List ℕ) → List (ℕ × ℕ)
places_from base at raws = filter_map (placed_line base) (map text_line (lines_from at raws))

-- the cell of what is read at a place
abbrev read_cell : Enc → (ℕ → List ℕ) → Option ℕ → Option Cell
read_cell enc read place = option_and_then (λ p. text_cell enc (read p)) place

first-from : (enc : Enc) (a : ℕ) (read : ℕ → List ℕ) (base at : ℕ) (raws : List (List ℕ)) → EachReads read base at raws
    → first_with (cells_from enc at raws) a ≡ read_cell enc read (place_with (places_from base at raws) a)
first-from enc a read base at [] each = refl
first-from enc a read base at (raw ∷ raws) each = by (led_of (text_of raw)) refl (first-from enc a read base (at + length raw) raws each.1)
  where
    by : (led : Option (ℕ × List ℕ)) → led_of (text_of raw) ≡ led
        → first_with (cells_from enc (at + length raw) raws) a ≡ read_cell enc read (place_with (places_from base (at + length raw) raws) a)
        → first_with (cons_option (option_map (spelled_cell enc) (led_of (text_of raw))) (cells_from enc (at + length raw) raws)) a
        ≡ read_cell enc read (place_with (cons_option (option_map (λ led. (led.0, base + at)) (led_of (text_of raw))) (places_from base (at + length raw) raws)) a)
    by None is rest =
        ap (λ o. first_with (cons_option (option_map (spelled_cell enc) o) (cells_from enc (at + length raw) raws)) a) is
        ∙ rest
        ∙ sym (ap (λ o. read_cell enc read (place_with (cons_option (option_map (λ led. (led.0, base + at)) o) (places_from base (at + length raw) raws)) a)) is)
    by (Some led) is rest =
        ap (λ o. first_with (cons_option (option_map (spelled_cell enc) o) (cells_from enc (at + length raw) raws)) a) is
        ∙ elim (led.0 == a) as (λ b. cond b (Some (spelled_cell enc led)) (first_with (cells_from enc (at + length raw) raws) a)
        ≡ read_cell enc read (option_map (λ (p : ℕ × ℕ). p.1) (cond b (Some (led.0, base + at)) (find (λ (p : ℕ × ℕ). p.0 == a) (places_from base (at + length raw) raws))))) [
          | true ↦ sym (ap (text_cell enc) each.0 ∙ ap (option_map (spelled_cell enc)) is)
          | false ↦ rest
        ]
        ∙ sym (ap (λ o. read_cell enc read (place_with (cons_option (option_map (λ led. (led.0, base + at)) o) (places_from base (at + length raw) raws)) a)) is)

-- ---- the lines of two bodies

-- the first cell with an address, of two lists
pub first-append : (xs ys : List Cell) (a : ℕ) → first_with (xs ++ ys) a ≡ option_or (first_with xs a) (first_with ys a)
first-append [] ys a = refl
first-append (x ∷ xs) ys a =
    elim (x.address == a) as (λ b. cond b (Some x) (first_with (xs ++ ys) a) ≡ option_or (cond b (Some x) (first_with xs a)) (first_with ys a)) [
      | true ↦ refl
      | false ↦ first-append xs ys a
    ]

same-none : (enc : Enc) (a base at : ℕ) (raws : List (List ℕ))
    → ((place_with (places_from base at raws) a ≡ None) → first_with (cells_from enc at raws) a ≡ None) × ((first_with (cells_from enc at raws) a ≡ None) → place_with (places_from base at raws) a ≡ None)
same-none enc a base at [] = (λ _. refl, λ _. refl)
same-none enc a base at (raw ∷ raws) = by (led_of (text_of raw)) (same-none enc a base (at + length raw) raws)
  where
    by : (led : Option (ℕ × List ℕ))
        → ((place_with (places_from base (at + length raw) raws) a ≡ None) → first_with (cells_from enc (at + length raw) raws) a ≡ None)
        × ((first_with (cells_from enc (at + length raw) raws) a ≡ None) → place_with (places_from base (at + length raw) raws) a ≡ None)
        → ((place_with (cons_option (option_map (λ led. (led.0, base + at)) led) (places_from base (at + length raw) raws)) a ≡ None)
        → first_with (cons_option (option_map (spelled_cell enc) led) (cells_from enc (at + length raw) raws)) a ≡ None)
        × ((first_with (cons_option (option_map (spelled_cell enc) led) (cells_from enc (at + length raw) raws)) a ≡ None)
        → place_with (cons_option (option_map (λ led. (led.0, base + at)) led) (places_from base (at + length raw) raws)) a ≡ None)
    by None rest = rest
    by (Some led) rest =
        elim (led.0 == a) as (λ b.
        ((option_map (λ (p : ℕ × ℕ). p.1) (cond b (Some (led.0, base + at)) (find (λ (p : ℕ × ℕ). p.0 == a) (places_from base (at + length raw) raws))) ≡ None)
        → cond b (Some (spelled_cell enc led)) (first_with (cells_from enc (at + length raw) raws) a) ≡ None)
        × ((cond b (Some (spelled_cell enc led)) (first_with (cells_from enc (at + length raw) raws) a) ≡ None)
        → option_map (λ (p : ℕ × ℕ). p.1) (cond b (Some (led.0, base + at)) (find (λ (p : ℕ × ℕ). p.0 == a) (places_from base (at + length raw) raws))) ≡ None)) [
          | true ↦ (λ is. let no : Some (base + at) ≡ None = is in cc, λ is. let no : Some (spelled_cell enc led) ≡ None = is in cc)
          | false ↦ rest
        ]

-- the first line with an address is the one that begins at its place
pub first-placed : (enc : Enc) (base : ℕ) (body : List ℕ) (read : ℕ → List ℕ) (a : ℕ) → ReadsTexts read base body
    → first_with (line_cells enc body) a ≡ option_and_then (λ place. text_cell enc (read place)) (place_with (placed_lines base body) a)
first-placed enc base body read a reads = first-from enc a read base 0 (raw_lines body) (each-reads read base 0 body (raw_lines body) reads.texts refl)

some-same : (o : Option ℕ) (x : Option Cell) → ((o ≡ None) → x ≡ None) × ((x ≡ None) → o ≡ None) → is_some o ≡ is_some x
some-same None None both = refl
some-same None (Some cell) both = let no : Some cell ≡ None = both.0 refl in cc
some-same (Some place) None both = let no : Some place ≡ None = both.1 refl in cc
some-same (Some place) (Some cell) both = refl

-- an address has a place exactly if a line has it
pub placed-known : (enc : Enc) (base : ℕ) (body : List ℕ) (a : ℕ) → is_some (place_with (placed_lines base body) a) ≡ is_some (first_with (line_cells enc body) a)
placed-known enc base body a =
    some-same (place_with (placed_lines base body) a) (first_with (line_cells enc body) a) (same-none enc a base 0 (raw_lines body))

counts-from : (enc : Enc) (base at : ℕ) (raws : List (List ℕ)) → length (places_from base at raws) ≡ length (cells_from enc at raws)
counts-from enc base at [] = refl
counts-from enc base at (raw ∷ raws) = by (led_of (text_of raw)) (counts-from enc base (at + length raw) raws)
  where
    by : (led : Option (ℕ × List ℕ)) → length (places_from base (at + length raw) raws) ≡ length (cells_from enc (at + length raw) raws)
        → length (cons_option (option_map (λ led. (led.0, base + at)) led) (places_from base (at + length raw) raws))
        ≡ length (cons_option (option_map (spelled_cell enc) led) (cells_from enc (at + length raw) raws))
    by None rest = rest
    by (Some led) rest = omega (arith, rest)

-- there are as many places as lines
pub placed-count : (enc : Enc) (base : ℕ) (body : List ℕ) → length (placed_lines base body) ≡ length (line_cells enc body)
placed-count enc base body = counts-from enc base 0 (raw_lines body)
