-- The two bodies of a heap as one text.
use Rattle.std.specs.Prelude.{ℕ, List, ◌++◌, length}
use Rattle.heap_cells.specs.declared.texts.Texts.{Texts}
use Rattle.heap_cells.specs.Cells.{weight}

-- the heap's own body, followed by that of the literals
abbrev pub text_of : Texts → List ℕ
text_of texts = texts.heap.items ++ texts.literals.items

-- where the literals begin
abbrev pub seam_of : Texts → ℕ
seam_of texts = length texts.heap.items

-- how many heap lines both bodies have, and elements in their forms
abbrev pub weight_in : Texts → ℕ
weight_in texts = weight texts.enc texts.heap.items texts.literals.items
