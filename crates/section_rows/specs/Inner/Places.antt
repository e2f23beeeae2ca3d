-- Cells that are stored with their texts in one pool. The texts of a row stand there one after another.
use Rattle.std.specs.Prelude.{◌≡◌, ℕ, ◌+◌, ◌^◌, ◌<◌, ◌≤◌, List, [], ◌∷◌, ◌++◌, length, take, drop, map, Option, None, Some, IfSome, All}
use Rattle.std.specs.List.{between, sum_by}
use Rattle.section_rows.specs.declared.store.Place.{Place}
use Rattle.section_rows.specs.declared.store.Head.{Head}
use Rattle.section_rows.specs.declared.store.Store.{Store}
use Rattle.section_rows.specs.Rows.{Kept, kept, Row, IsBoundedText, IsBoundedCell}

-- how many bytes the text of a cell has
abbrev pub place_len : Option Place → ℕ
place_len None = 0
place_len (Some place) = place.len

abbrev pub text_len : List (Option Place) → ℕ
text_len places = sum_by place_len places

-- the cell whose text these bytes begin with, of a section at this offset
abbrev pub cell_in : ℕ → List ℕ → Option Place → Option Kept
cell_in base texts None = None
cell_in base texts (Some place) = Some (kept (base + place.at) (base + place.value) (take place.len texts))

-- the cells whose texts these bytes begin with
abbrev pub cells_in : ℕ → List ℕ → List (Option Place) → List (Option Kept)
cells_in base texts [] = []
cells_in base texts (place ∷ places) = cell_in base texts place ∷ cells_in base (drop (place_len place) texts) places

-- the places of a row's cells
abbrev pub places_of : ℕ → List (Option Place) → Head → List (Option Place)
places_of width places head = between head.places (head.places + width) places

abbrev pub row_in : ℕ → List (Option Place) → List ℕ → Head → Row
row_in width places pool head =
    record { at = head.at; cells = cells_in head.at (drop head.texts pool) (places_of width places head) }

-- the places and the texts of the row are there, and its cells are bounded
pub record IsWithin (width : ℕ) (places : List (Option Place)) (pool : List ℕ) (head : Head) : Type 0 where
  pub places_there : head.places + width ≤ length places
  pub texts_there : head.texts + text_len (places_of width places head) ≤ length pool
  pub bounded : All IsBoundedCell (row_in width places pool head).cells

abbrev pub rows_in : Store → List Row
rows_in store = map (row_in store.width store.places.items store.pool.items) store.heads.items

abbrev pub AreWithin : Store → Type 0
AreWithin store = All (IsWithin store.width store.places.items store.pool.items) store.heads.items

-- the store has one more row
pub record HasGained (before after : Store) (row : Row) : Type 0 where
  pub width : after.width ≡ before.width
  pub rows : rows_in after ≡ rows_in before ++ row ∷ []
  pub within : AreWithin after

-- cells were appended to the places and the pool
pub record Gained (base : ℕ) (places_before places_after : List (Option Place)) (pool_before pool_after : List ℕ) (cells : List (Option Kept)) : Type 0 where
  pub places : List (Option Place)
  pub texts : List ℕ
  pub more_places : places_after ≡ places_before ++ places
  pub more_texts : pool_after ≡ pool_before ++ texts
  pub exact : text_len places ≡ length texts
  pub shown : cells_in base texts places ≡ cells
  pub bounded : All IsBoundedCell cells

-- a text and its line begin no earlier than this offset, and at a distance from it that 32 bits can hold
pub record IsNear (base : ℕ) (k : Kept) : Type 0 where
  pub line : base ≤ k.at
  pub near_line : k.at < base + 2 ^ 32
  pub text : base ≤ k.value_at
  pub near_text : k.value_at < base + 2 ^ 32

-- if there is a cell, its text fits the numbers of a place, and is within the bounds
abbrev pub HasRoom : ℕ → Option Kept → Type 0
HasRoom base cell = IfSome cell (λ k. IsNear base k × IsBoundedText k)
