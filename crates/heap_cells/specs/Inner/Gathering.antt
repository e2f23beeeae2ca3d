-- Gathering the heap lines of the bodies one by one.
use Rattle.std.specs.Prelude.{◌≡◌, ℕ, ◌+◌, ◌≤◌, List, [], ◌∷◌, ◌++◌, length, map, slice_range}
use Rattle.binary_payloads.specs.declared.enc.Enc.{Enc}
use Rattle.field_lines.specs.Lines.{TextLine}
use Rattle.term_forms.specs.ReadingForms.{form_of}
use Rattle.heap_cells.specs.Cells.{Cell, line_cells, weight_of}
use Rattle.heap_cells.specs.declared.gathering.Gathering.{Gathering}
use Rattle.heap_cells.specs.declared.texts.Texts.{Texts}
use Rattle.heap_cells.specs.Inner.Parts.{IsPart}
use Rattle.heap_cells.specs.Inner.Texts.{text_of, seam_of, weight_in}
use Rattle.heap_graph.specs.declared.held.Held.{Held}
use Rattle.heap_graph.specs.Elements.{IsOfSlots}
use Rattle.heap_graph.specs.Held.{HeapLine, IsHeld}

-- the text of a line begins this many bytes after this place
pub record IsLineAt (text : List ℕ) (seam base : ℕ) (line : TextLine) : Type 0 where
  pub part : IsPart seam (length text) (base + line.at) (base + line.at + length line.text)
  pub stands : slice_range text (base + line.at) (base + line.at + length line.text) ≡ line.text

-- a body stands at this place
pub record IsBodyAt (text : List ℕ) (seam base : ℕ) (body : List ℕ) : Type 0 where
  pub part : IsPart seam (length text) base (base + length body)
  pub stands : slice_range text base (base + length body) ≡ body

-- the text of a heap line's form stands where the line says, and spells the form of its cell
pub record StandsIn (text : List ℕ) (seam : ℕ) (enc : Enc) (line : HeapLine) : Type 0 where
  pub part : IsPart seam (length text) line.from (line.from + length line.text)
  pub stands : slice_range text line.from (line.from + length line.text) ≡ line.text
  pub form : line.cell.form ≡ form_of enc line.text

-- each of the heap lines stands in the text
abbrev pub AllStandIn : List ℕ → ℕ → Enc → List HeapLine → Type 0
AllStandIn text seam enc [] = Unit {0}
AllStandIn text seam enc (line ∷ lines) = StandsIn text seam enc line × AllStandIn text seam enc lines

-- the cells of heap lines
abbrev pub cells_in : List HeapLine → List Cell
cells_in lines = map (λ line. line.cell) lines

-- heap lines with these cells are held, with slots, and stand in the bodies
pub record HoldsCells (texts : Texts) (held : Held) (cells : List Cell) : Type 0 where
  pub lines : List HeapLine
  pub held_is : IsHeld lines held
  pub slots : IsOfSlots held.elements
  pub stand : AllStandIn (text_of texts) (seam_of texts) texts.enc lines
  pub cells_are : cells_in lines ≡ cells

-- these cells were gathered: their weight was added, and as long as all
-- together weigh no more than the limit, they are held behind what was held
pub record Gathers (texts : Texts) (old new : Gathering) (cells : List Cell) : Type 0 where
  pub weight : new.weight ≡ old.weight + weight_of cells
  pub held : new.weight ≤ old.dense → (front : List Cell) → HoldsCells texts old.held front → HoldsCells texts new.held (front ++ cells)

-- the cells of both bodies were gathered, and so many come from the first
pub record AreAll (texts : Texts) (g : Gathering) (own : ℕ) : Type 0 where
  pub weight_is : g.weight ≡ weight_in texts
  pub held : g.weight ≤ g.dense → HoldsCells texts g.held (line_cells texts.enc texts.heap.items ++ line_cells texts.enc texts.literals.items)
  pub own_is : g.weight ≤ g.dense → own ≡ length (line_cells texts.enc texts.heap.items)

-- the cells of both bodies are held, and so many come from the first
pub record HoldsTexts (texts : Texts) (held : Held) (own : ℕ) : Type 0 where
  pub holds : HoldsCells texts held (line_cells texts.enc texts.heap.items ++ line_cells texts.enc texts.literals.items)
  pub own_is : own ≡ length (line_cells texts.enc texts.heap.items)

-- nothing was gathered so far
pub record IsNothing (g : Gathering) : Type 0 where
  pub held : IsHeld [] g.held
  pub slots : IsOfSlots g.held.elements
  pub weight : g.weight ≡ 0
