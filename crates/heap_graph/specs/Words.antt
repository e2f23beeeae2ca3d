-- How many words a cell has in the memory of a node of 64 bits.
use Rattle.std.specs.Prelude.{ℕ, ◌+◌, ◌-◌, ◌==◌, nat_eq, List, [], ◌∷◌, length, map, codes, Option, None, Some, if◌then◌else◌, slice_index_or}
use Rattle.std.specs.Int.{div_ceil}
use Rattle.std.specs.List.{starts_with}
use Rattle.dump_io.specs.Letters.{letter}
use Rattle.term_forms.specs.Forms.{HeapForm, Cons, Tuple, Float, Long, Pid, Port, Ext, HeapBin, RefBin, SubBin, Flat, Hash, Node}
use Rattle.heap_graph.specs.Cells.{Cell}

-- a big integer without its sign
abbrev pub digits_of : List ℕ → List ℕ
digits_of [] = []
digits_of (c ∷ text) = if c == letter (codes "-") then text else c ∷ text

-- of hex digits 16 are a word, and of decimal ones 19 count as one
abbrev pub digit_words : List ℕ → ℕ
digit_words digits = if starts_with nat_eq digits (codes "16#") then div_ceil (length digits - 3) 16 else div_ceil (length digits) 19

-- the words of a big integer behind its header
abbrev pub long_words : List ℕ → ℕ
long_words number = digit_words (digits_of number)

-- the words of a form
abbrev pub words_of : HeapForm → ℕ
words_of (Cons head tail) = 2
words_of (Tuple elements) = length elements + 1
words_of (Float bytes) = 2
words_of (Long number) = 1 + long_words number
words_of (Pid pid) = 3
words_of (Port port) = 3
words_of (Ext size chars) = div_ceil size 8 + 1
words_of (HeapBin size chars) = div_ceil size 8 + 2
words_of (RefBin address offset size) = 6
words_of (SubBin address offset size) = 5
words_of (Flat keys values) = length values + 3
words_of (Hash size children) = length children + 2
words_of (Node children) = length children + 1

-- the words of a cell; a malformed one has none
abbrev pub words_in : Option HeapForm → ℕ
words_in None = 0
words_in (Some form) = words_of form

-- the words of each of a heap's cells
abbrev pub words_list : List Cell → List ℕ
words_list cells = map (λ cell. words_in cell.form) cells

-- the words of the cell with a number
abbrev pub words_at : List ℕ → ℕ → ℕ
words_at words n = slice_index_or words n 0
