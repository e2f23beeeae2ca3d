-- What is read of the text of a cell's form.
use Rattle.std.specs.Prelude.{ℕ, ◌+◌, List, length, Option}
use Rattle.std.specs.Option.{option_map, option_map_or}
use Rattle.cell_records.specs.declared.cells.Kind.{Kind}
use Rattle.term_forms.specs.Elements.{Element}
use Rattle.term_forms.specs.Forms.{HeapForm}
use Rattle.heap_graph.specs.Cells.{elements_in, kind_of}
use Rattle.heap_graph.specs.declared.forms.Read.{Read}
use Rattle.heap_graph.specs.Kinds.{kind_words}
use Rattle.heap_graph.specs.Words.{words_in}

-- the kind and the words of a form, or that there is none, and how many elements it has
abbrev pub read_of : Option HeapForm → Read
read_of form = record { kind = option_map kind_of form; words = words_in form; count = length (elements_in form) }

-- the kind and the words of a form of this kind without a payload, if its elements behind the first so many are read
abbrev pub read_with : Kind → ℕ → Option (List Element) → Read
read_with kind before es = record {
  kind = option_map (λ _. kind) es;
  words = option_map_or (λ es. kind_words kind (before + length es)) es 0;
  count = option_map_or (λ es. before + length es) es 0;
}
