-- Parts whose labels are keys.
use Rattle.std.proofs.Common.{◌≡◌, ℕ, suc, ◌+◌, ◌<◌, Bool, true, false, if◌then◌else◌, List, [], ◌∷◌, length, map, take, Option, None, Some, refl, ◌∙◌, ap, ap₂}
use Rattle.std.specs.Prelude.{◌||◌, All, codes, filter, option_map}
use Rattle.std.specs.List.{cons_option, enumerate_from, filter_map, list_any}
use Rattle.std.specs.Option.{option_and_then, option_map_or}
use Rattle.std.proofs.lemmas.List.{get_or-map, take-map}
use Rattle.std.proofs.lemmas.List.Elements.{All-head, All-tail}
use Rattle.cell_parts.specs.Parts.{CellPart, PartElement, is_for, part_at, parts_made}
use Rattle.heap_cells.specs.Cells.{Cell}
use Rattle.heap_skeleton.specs.Skeletons.{SkeletonMap}
use Rattle.part_keys.specs.Keys.{key_label}
use Rattle.part_weights.specs.Weights.{keyed, row_of, with_key}
use Rattle.part_weights.specs.Held.{held_place, no_part, rows_at, under_key, with_labels}
use Rattle.part_weights.specs.declared.held_parts.HeldPart.{HeldPart}

module _ (cells : List Cell) (cell : ℕ) where
  -- an element with its key, and a part with that of its first element
  abbrev keyed_one : PartElement → PartElement
  keyed_one e = with_key cells cell e

  -- a part under the key of its first element
  abbrev under : CellPart → CellPart
  under part = under_key cells cell part

  -- ---- labels change no part

  any-keyed : (c : ℕ) (es : List PartElement) → list_any (is_for c) (map keyed_one es) ≡ list_any (is_for c) es
  any-keyed c [] = refl
  any-keyed c (e ∷ es) = ap (λ b. is_for c e || b) (any-keyed c es)

  count-keyed : (c : ℕ) (es : List PartElement) → length (filter (is_for c) (map keyed_one es)) ≡ length (filter (is_for c) es)
  count-keyed c [] = refl
  count-keyed c (e ∷ es) = by (is_for c e) (count-keyed c es)
    where
      by : (b : Bool) → length (filter (is_for c) (map keyed_one es)) ≡ length (filter (is_for c) es)
          → length (if b then keyed_one e ∷ filter (is_for c) (map keyed_one es) else filter (is_for c) (map keyed_one es)) ≡ length (if b then e ∷ filter (is_for c) es else filter (is_for c) es)
      by true later = ap suc later
      by false later = later

  -- the part that an element makes, unless an element before it leads to the same cell
  abbrev made_of : Bool → ℕ → ℕ → ℕ → List ℕ → Option CellPart
  made_of any c count at label = if any then None else Some (record { cell = c; elements = count; at = at; label = label })

  part-keyed : (es : List PartElement) (n : ℕ) (e : PartElement) → part_at (map keyed_one es) (n, keyed_one e) ≡ option_map under (part_at es (n, e))
  part-keyed es n e = by e.lead
    where
      made : (b : Bool) (c count : ℕ) → made_of b c count e.at (key_label cells (record { cell = cell; at = e.at; part = c })) ≡ option_map under (made_of b c count e.at e.label)
      made true c count = refl
      made false c count = refl

      by : (lead : Option ℕ)
          → option_and_then (λ c. made_of (list_any (is_for c) (take n (map keyed_one es))) c (length (filter (is_for c) (map keyed_one es))) e.at
          (option_map_or (λ k. key_label cells (record { cell = cell; at = e.at; part = k })) lead (codes "-"))) lead
          ≡ option_map under (option_and_then (λ c. made_of (list_any (is_for c) (take n es)) c (length (filter (is_for c) es)) e.at e.label) lead)
      by None = refl
      by (Some c) =
          ap₂ (λ b count. made_of b c count e.at (key_label cells (record { cell = cell; at = e.at; part = c })))
          (ap (list_any (is_for c)) (take-map keyed_one n es) ∙ any-keyed c (take n es)) (count-keyed c es)
          ∙ made (list_any (is_for c) (take n es)) c (length (filter (is_for c) es))

  cons-keyed : (o : Option CellPart) (ps : List CellPart) → cons_option (option_map under o) (map under ps) ≡ map under (cons_option o ps)
  cons-keyed None ps = refl
  cons-keyed (Some p) ps = refl

  parts-from : (es rest : List PartElement) (n : ℕ) → filter_map (part_at (map keyed_one es)) (enumerate_from n (map keyed_one rest)) ≡ map under (filter_map (part_at es) (enumerate_from n rest))
  parts-from es [] n = refl
  parts-from es (e ∷ rest) n =
      ap₂ cons_option (part-keyed es n e) (parts-from es rest (n + 1)) ∙ cons-keyed (part_at es (n, e)) (filter_map (part_at es) (enumerate_from (n + 1) rest))

  -- elements with their keys make the parts with theirs
  pub parts-keyed : (es : List PartElement) → parts_made (keyed cells cell es) ≡ map (under_key cells cell) (parts_made es)
  parts-keyed es = parts-from es es 0

  -- the rows of parts with their keys are those of the parts with the keys as labels
  pub rows-keyed : (heap : SkeletonMap) (parts : List CellPart) (held : List HeldPart) → All (λ h. h.part < length parts) held
      → rows_at heap (map (under_key cells cell) parts) held ≡ with_labels (map (λ h. key_label cells (held_place cell parts h)) held) (rows_at heap parts held)
  rows-keyed heap parts [] within = refl
  rows-keyed heap parts (h ∷ held) within =
      let inside : h.part < length parts = All-head (λ h. h.part < length parts) h held within in
      ap₂ (λ a b. a ∷ b) (ap (λ p. row_of heap (p, h.weight)) (get_or-map under parts h.part no_part no_part inside))
      (rows-keyed heap parts held (All-tail (λ h. h.part < length parts) h held within))
