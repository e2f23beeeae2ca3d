-- Which cells lead to which. Cells are identified by their numbers.
use Rattle.std.specs.Prelude.{◌≡◌, ℕ, ◌<◌, List, [], ◌∷◌, length, map, Option, None, Some, slice_get, slice_index_or}
use Rattle.std.specs.Option.{option_and_then}
use Rattle.term_forms.specs.Forms.{HeapForm, HeapBin, SubBin}
use Rattle.heap_cells.specs.Cells.{Cell, elements_in}
use Rattle.heap_cells.specs.HeapMap.{form_at, number_at}
use Rattle.heap_cells.specs.Targets.{Target, At, target}

-- for each cell, in order, its places: the number of the cell to which each leads, if it leads to one
abbrev pub Graph : Type 0
Graph = List (List (Option ℕ))

-- the places of a cell
abbrev pub places_at : Graph → ℕ → List (Option ℕ)
places_at graph m = slice_index_or graph m []

-- a cell leads to another
abbrev pub Leads : Graph → ℕ → ℕ → Type 0
Leads graph m n = (k : ℕ) × (slice_get (places_at graph m) k ≡ Some (Some n))

-- each cell leads to cells of the graph alone
abbrev pub LeadsWithin : Graph → Type 0
LeadsWithin graph = (m n : ℕ) → Leads graph m n → n < length graph

-- ---- the graph of a heap's cells

-- the cell to which an element refers, if there is one
abbrev pub cell_in : Target → Option ℕ
cell_in (At n) = Some n
cell_in place = None

-- the cell, if it is a heap binary
abbrev pub bin_in : ℕ → Option HeapForm → Option ℕ
bin_in n (Some (HeapBin size chars)) = Some n
bin_in n form = None

-- the heap binary at an address, if the heap has one there
abbrev pub bin_at : List Cell → ℕ → Option ℕ
bin_at cells address = option_and_then (λ n. bin_in n (form_at cells n)) (number_at cells address)

-- a sub binary leads to the heap binary of which it is a part, if the heap has it; any other cell
-- leads to those to which the elements of its form refer, including the keys element of a flat map
abbrev pub places_of : List Cell → Option HeapForm → List (Option ℕ)
places_of cells (Some (SubBin address offset size)) = bin_at cells address ∷ []
places_of cells form = map (λ e. cell_in (target cells e)) (elements_in form)

-- the graph of a heap's cells
abbrev pub graph_of : List Cell → Graph
graph_of cells = map (λ cell. places_of cells cell.form) cells
