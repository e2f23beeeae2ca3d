-- How the text grows to which lines of a larger heap are appended, and when it is enough.
use Rattle.std.specs.Prelude.{◌≡◌, ℕ, ◌+◌, ◌-◌, ◌*◌, ◌==◌, ◌<◌, ◌≤◌, List, [], ◌∷◌, ◌++◌, length, find, slice_index_or, Option, None, Some}
use Rattle.std.specs.Option.{option_to_list}
use Rattle.dump_io.specs.Dumps.{Now, DeviceState, ReadsAtMost}
use Rattle.binary_payloads.specs.declared.enc.Enc.{Enc}
use Rattle.body_lines.specs.Lines.{AreWhole}
use Rattle.term_forms.specs.Seen.{element}
use Rattle.term_forms.specs.declared.shapes.Elem.{Elem}
use Rattle.heap_cells.specs.Cells.{Cell, line_cells}
use Rattle.term_unfold.specs.Parts.{Known, gap_of}
use Rattle.heap_parts.specs.Wholes.{HasLines, ServesLines}
use Rattle.heap_parts.specs.declared.gathered.Source.{Source}

-- ---- lines that are the first with their addresses

-- the first of these cells with an address
abbrev pub first_with : List Cell → ℕ → Option Cell
first_with cells address = find (λ cell. cell.address == address) cells

-- of each address that some cells have, these have the cell that is the first of all with it
abbrev pub EachFirst : List Cell → List Cell → Type 0
EachFirst all [] = Unit {0}
EachFirst all (cell ∷ cells) = (first_with all cell.address ≡ Some cell) × EachFirst all cells

-- some cells are all the first with their addresses
pub record AreFirstLines (all cells : List Cell) : Type 0 where
  pub each : EachFirst all cells

-- the cell of the first line with an address was appended to those of a text
abbrev pub IsPushed : Enc → List Cell → ℕ → List ℕ → List ℕ → Type 0
IsPushed enc all address old new = line_cells enc new ≡ line_cells enc old ++ option_to_list (first_with all address)

-- ---- what is gathered

-- lines may be appended to a text: it ends with the end of a line, and is within a limit
pub record MayGrow (limit : ℕ) (text : List ℕ) : Type 0 where
  pub few : length text ≤ limit
  pub whole : AreWhole text

-- a call that reads lines has read no more than 16 bytes for each byte that it may append, and it keeps the rest of the device
abbrev pub ReadsLines : DeviceState → DeviceState → ℕ → List ℕ → Type 0
ReadsLines before after limit old = ReadsAtMost before after (16 * (limit + 4 - length old))

-- lines may be gathered from what is open and appended to a text
pub record MayGather (from : Source) (now : Now) (text : List ℕ) : Type 0 where
  pub serves : ServesLines from.lines.now now
  pub room : MayGrow from.bytes text

-- lines were appended to a text: no more than 16 bytes were read for each byte of them, and more may be
-- appended; if the text's lines were first lines of the whole heap, they still are
pub record Grows (from : Source) (before after : DeviceState) (old new : List ℕ) : Type 0 where
  pub reads : ReadsAtMost before after (16 * (length new - length old))
  pub room : MayGrow from.bytes new
  pub longer : length old ≤ length new
  pub firsts : (all : List Cell) → HasLines from.lines.now before.now all
      → AreFirstLines all (line_cells from.lines.now.enc old) → AreFirstLines all (line_cells from.lines.now.enc new)

-- no root asks for what the heap lacks and `known` tells
pub record FindsNoGap (known : Known) (part : List Cell) (roots : List Elem) (n : ℕ) : Type 0 where
  pub none : (k : ℕ) (d : Elem) → k < length roots → gap_of known part (element (slice_index_or roots k d)) n ≡ None
