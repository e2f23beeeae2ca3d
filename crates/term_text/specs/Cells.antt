-- The report of the cells of a heap: what each is, how large, and how many there are of each kind.
use Rattle.std.specs.Prelude.{ℕ, List, [], ◌∷◌, ◌++◌, length, take, decimal, codes, count_by, Option, None, Some}
use Rattle.std.specs.List.{flat_map}
use Rattle.std.specs.Option.{option_and_then, option_map}
use Rattle.std.specs.Str.{bytes_eq}
use Rattle.dump_io.specs.Numbers.{hexadecimal}
use Rattle.term_forms.specs.Forms.{HeapForm, Cons, Tuple, Ext, HeapBin, RefBin, SubBin, Flat, Hash, Node}
use Rattle.heap_cells.specs.Cells.{Cell, kind_of}
use Rattle.heap_cells.specs.HeapMap.{HeapMap}
use Rattle.cell_records.specs.declared.cells.Kind.{Kind}
use Rattle.cell_records.specs.declared.cells.Kind.TheVariants as kind
use Rattle.report_lines.specs.Lines.{count_line, line_of, tab, text_or_dash, total_line}

-- the word for a kind of cells; a cell without a kind is malformed
abbrev pub cell_word : Option Kind → List ℕ
cell_word None = codes "malformed"
cell_word (Some kind.List) = codes "list"
cell_word (Some kind.Tuple) = codes "tuple"
cell_word (Some kind.Float) = codes "float"
cell_word (Some kind.Long) = codes "bignum"
cell_word (Some kind.Pid) = codes "pid"
cell_word (Some kind.Port) = codes "port"
cell_word (Some kind.Ext) = codes "external"
cell_word (Some kind.HeapBin) = codes "heap-binary"
cell_word (Some kind.RefBin) = codes "ref-binary"
cell_word (Some kind.SubBin) = codes "sub-binary"
cell_word (Some kind.Flat) = codes "flat-map"
cell_word (Some kind.Hash) = codes "hash-map"
cell_word (Some kind.Node) = codes "map-node"

-- all kinds in the order in which they are counted
abbrev pub all_kinds : List (Option Kind)
all_kinds =
    Some kind.List ∷ Some kind.Tuple ∷ Some kind.Float ∷ Some kind.Long ∷ Some kind.Pid ∷ Some kind.Port ∷ Some kind.Ext
    ∷ Some kind.HeapBin ∷ Some kind.RefBin ∷ Some kind.SubBin ∷ Some kind.Flat ∷ Some kind.Hash ∷ Some kind.Node ∷ None ∷ []

-- how large a form is: the number of its elements or its bytes,
-- or what a hash map states; numbers, pids and ports have no size
abbrev pub form_size : HeapForm → Option ℕ
form_size (Cons head tail) = Some 2
form_size (Tuple elements) = Some (length elements)
form_size (Ext size chars) = Some size
form_size (HeapBin size chars) = Some size
form_size (RefBin address offset size) = Some size
form_size (SubBin address offset size) = Some size
form_size (Flat keys values) = Some (length values)
form_size (Hash size children) = Some size
form_size (Node children) = Some (length children)
form_size form = None

-- the word for the kind of a form
abbrev pub word_of : Option HeapForm → List ℕ
word_of form = cell_word (option_map kind_of form)

-- the line of a cell: its address, its kind and its size, or `-` if it has none
abbrev pub cell_line : Cell → List ℕ
cell_line cell =
    line_of tab (hexadecimal cell.address ∷ word_of cell.form ∷ text_or_dash (option_map decimal (option_and_then form_size cell.form)) ∷ [])

-- how many of some cells have the kind with this word
abbrev pub word_count : List Cell → List ℕ → ℕ
word_count cells word = count_by (λ cell. bytes_eq (word_of cell.form) word) cells

-- the line of a kind among some cells
abbrev pub kind_line : List Cell → Option Kind → List ℕ
kind_line cells kind = count_line (codes "kind") (cell_word kind) (word_count cells (cell_word kind))

-- a line for each of some cells
abbrev pub cell_lines : List Cell → List ℕ
cell_lines cells = flat_map cell_line cells

-- a line for each kind among some cells
abbrev pub kind_lines : List Cell → List ℕ
kind_lines cells = flat_map (kind_line cells) all_kinds

-- how many cells there are
abbrev pub count_of_cells : List Cell → List ℕ
count_of_cells cells = total_line (codes "cells") (length cells)

-- the report of some cells
abbrev pub cells_text : List Cell → List ℕ
cells_text cells = cell_lines cells ++ (kind_lines cells ++ count_of_cells cells)

-- the heap's own cells, which come before the literals
abbrev pub own_cells : HeapMap → List Cell
own_cells heap = take heap.own heap.cells

-- the report of the heap's own cells
abbrev pub cells_report : HeapMap → List ℕ
cells_report heap = cells_text (own_cells heap)
