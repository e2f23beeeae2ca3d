-- What a part of a larger heap is enough for, and which addresses the larger heap has.
use Rattle.std.specs.Prelude.{◌≡◌, ℕ, ◌≤◌, Bool, List, [], length, Contains}
use Rattle.dump_sections.specs.Index.{Contents}
use Rattle.binary_payloads.specs.declared.enc.Enc.{Enc}
use Rattle.binary_refs.specs.Previews.{binaries}
use Rattle.term_forms.specs.Elements.{Element}
use Rattle.heap_cells.specs.Cells.{Cell, first_cells}
use Rattle.term_unfold.specs.Parts.{IsPartOfHeap, has_cell, answer_in}

-- an address is known exactly if one of the cells has it
pub record IsLawful (known : ℕ → Bool) (all : List Cell) : Type 0 where
  pub same : (a : ℕ) → known a ≡ has_cell (first_cells [] all) a

-- a part of the heap with all these lines that is enough for some roots, within n nodes of each: it has no more
-- references to binaries, and the answer over it to each of these roots is the answer over the whole heap
pub record IsEnoughFor (all part : List Cell) (roots : List Element) (n : ℕ) : Type 0 where
  pub part_of : IsPartOfHeap part (first_cells [] all)
  pub fewer : length (binaries part) ≤ length (binaries (first_cells [] all))
  pub answers : (root : Element) → Contains roots root → (dump : List ℕ) (index : Contents) (enc : Enc) (marked : Bool)
      → answer_in dump index enc part root n marked ≡ answer_in dump index enc (first_cells [] all) root n marked
