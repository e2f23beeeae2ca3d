-- The words of a form are those of its kind and of its payload.
use Rattle.std.proofs.Common.{◌≡◌, ℕ, ◌+◌, length, refl, arith}
use Rattle.term_forms.specs.Forms.{HeapForm, Cons, Tuple, Float, Long, Pid, Port, Ext, HeapBin, RefBin, SubBin, Flat, Hash, Node}
use Rattle.term_forms.specs.Places.{elements_of}
use Rattle.heap_graph.specs.Cells.{kind_of}
use Rattle.heap_graph.specs.Kinds.{kind_words, payload_words}
use Rattle.heap_graph.specs.Words.{words_of}

no-more : (n : ℕ) → n ≡ n + 0
no-more n = omega arith

pub form-words : (form : HeapForm) → words_of form ≡ kind_words (kind_of form) (length (elements_of form)) + payload_words form
form-words (Cons head tail) = refl
form-words (Tuple elements) = no-more (length elements + 1)
form-words (Float bytes) = refl
form-words (Long number) = refl
form-words (Pid pid) = refl
form-words (Port port) = refl
form-words (Ext size chars) = omega arith
form-words (HeapBin size chars) = omega arith
form-words (RefBin address offset size) = refl
form-words (SubBin address offset size) = refl
form-words (Flat keys values) = omega arith
form-words (Hash size children) = no-more (length children + 2)
form-words (Node children) = no-more (length children + 1)
