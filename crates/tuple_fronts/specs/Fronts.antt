-- The first elements of the tuples and the lists of a heap.
use Rattle.std.specs.Prelude.{ℕ, List, [], ◌∷◌, take, map, Option, Some}
use Rattle.dump_sections.specs.Index.{Contents, sections_in}
use Rattle.heap_cells.specs.Cells.{Cell}
use Rattle.heap_cells.specs.HeapMap.{form_at}
use Rattle.heap_cells.specs.Loading.{heap_section, literals_section}
use Rattle.heap_skeleton.specs.Skeletons.{heap_in}
use Rattle.term_forms.specs.Elements.{Element}
use Rattle.term_forms.specs.Forms.{HeapForm, Cons, Tuple}

-- the elements of a tuple, and the head and the tail of a list; any other form, and a malformed cell, has none
abbrev pub listed : Option HeapForm → List Element
listed (Some (Tuple elements)) = elements
listed (Some (Cons head tail)) = head ∷ tail ∷ []
listed form = []

-- the first elements of a cell with a form, at most this many
abbrev pub form_first : ℕ → Option HeapForm → List Element
form_first most form = take most (listed form)

-- the first elements of the cell with a number, at most this many
abbrev pub first_of : ℕ → List Cell → ℕ → List Element
first_of most cells number = form_first most (form_at cells number)

-- the first elements of a cell with a form, at most 8
abbrev pub form_front : Option HeapForm → List Element
form_front form = form_first 8 form

-- at most 8 of those of the cell with a number
abbrev pub front_of : List Cell → ℕ → List Element
front_of cells number = first_of 8 cells number

-- the cells of the heap of the process with this pid, followed by those of the literals
abbrev pub cells_for : List ℕ → Contents → List ℕ → List Cell
cells_for dump index pid =
    let sections = sections_in index in
    let heap = heap_in dump index (heap_section pid sections) (literals_section sections) in
    heap.cells

-- the first elements, at most this many, of each of these cells of the heap of the process with this pid
abbrev pub firsts_for : ℕ → List ℕ → Contents → List ℕ → List ℕ → List (List Element)
firsts_for most dump index pid numbers = map (first_of most (cells_for dump index pid)) numbers

-- at most 8 of each
abbrev pub fronts_for : List ℕ → Contents → List ℕ → List ℕ → List (List Element)
fronts_for dump index pid numbers = firsts_for 8 dump index pid numbers
