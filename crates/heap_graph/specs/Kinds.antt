-- The words of a form by its kind, the number of its elements and its payload.
use Rattle.std.specs.Prelude.{ℕ, ◌+◌}
use Rattle.std.specs.Int.{div_ceil}
use Rattle.term_forms.specs.Forms.{HeapForm, Long, Ext, HeapBin}
use Rattle.cell_records.specs.declared.cells.Kind.{Kind}
use Rattle.cell_records.specs.declared.cells.Kind.TheVariants as kind
use Rattle.heap_graph.specs.Words.{long_words}

-- the words of a form without its payload; the keys element of a flat map is one of its elements
abbrev pub kind_words : Kind → ℕ → ℕ
kind_words kind.List elements = 2
kind_words kind.Tuple elements = elements + 1
kind_words kind.Float elements = 2
kind_words kind.Long elements = 1
kind_words kind.Pid elements = 3
kind_words kind.Port elements = 3
kind_words kind.Ext elements = 1
kind_words kind.HeapBin elements = 2
kind_words kind.RefBin elements = 6
kind_words kind.SubBin elements = 5
kind_words kind.Flat elements = elements + 2
kind_words kind.Hash elements = elements + 2
kind_words kind.Node elements = elements + 1

-- the words of a payload
abbrev pub payload_words : HeapForm → ℕ
payload_words (Long number) = long_words number
payload_words (Ext size chars) = div_ceil size 8
payload_words (HeapBin size chars) = div_ceil size 8
payload_words form = 0
