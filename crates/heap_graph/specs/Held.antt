-- What is held of the heap lines so far.
use Rattle.std.specs.Prelude.{◌≡◌, ℕ, ◌+◌, ◌-◌, ◌≤◌, ◌^◌, ◌==◌, List, [], ◌∷◌, ◌++◌, length, map, slice_get, slice_index_or, Option, None, if◌then◌else◌}
use Rattle.std.specs.List.{filter_map, list_any}
use Rattle.std.specs.Option.{option_map, option_map_or}
use Rattle.binary_payloads.specs.declared.enc.Enc.{Enc}
use Rattle.cell_records.specs.declared.cells.Kind.{Kind}
use Rattle.dump_io.specs.Lines.{Line, text_of}
use Rattle.term_forms.specs.Words.{led_of}
use Rattle.heap_graph.specs.Cells.{Cell, kind_of, spelled_cell}
use Rattle.heap_graph.specs.declared.held.CellPart.{CellPart}
use Rattle.heap_graph.specs.declared.held.Held.{Held}
use Rattle.heap_graph.specs.declared.elements.Elements.{Elements}
use Rattle.heap_graph.specs.declared.elements.Elements.TheVariants as kept
use Rattle.heap_graph.specs.declared.leads.Lead.{Lead}
use Rattle.heap_graph.specs.Elements.{Found, count, AreIn, Appends, Keeps}
use Rattle.heap_graph.specs.Leads.{leads_in, references}
use Rattle.heap_graph.specs.Words.{words_in}

-- a heap line: its cell, how many bytes stand before the line and before the text of the form, and this text
pub record HeapLine : Type 0 where
  pub cell : Cell
  pub at : ℕ
  pub from : ℕ
  pub text : List ℕ

-- a line that stands for none
abbrev pub no_line : HeapLine
no_line = record { cell = record { address = 0; form = None }; at = 0; from = 0; text = [] }

-- the line with a number
abbrev pub line_at : List HeapLine → ℕ → HeapLine
line_at lines i = slice_index_or lines i no_line

-- the heap line with this address and this text, before which, and before whose text, so many bytes stand
abbrev pub heap_line_with : Enc → ℕ → ℕ → ℕ × List ℕ → HeapLine
heap_line_with enc at from led = record { cell = spelled_cell enc led; at = at; from = from; text = led.1 }

-- the heap line that a line is, if it is one
abbrev pub heap_line_of : Enc → Line → Option HeapLine
heap_line_of enc line = option_map (λ led. heap_line_with enc line.at (line.at + (length (text_of line.raw) - length led.1)) led) (led_of (text_of line.raw))

-- the heap lines among lines
abbrev pub heap_lines : Enc → List Line → List HeapLine
heap_lines enc lines = filter_map (heap_line_of enc) lines

-- the addresses that are kept beside the marks of the elements of a line
abbrev pub kept_references : Elements → HeapLine → List ℕ
kept_references (kept.Leads leads) line = references (leads_in line.cell.form)
kept_references (kept.Slots slots) line = []

-- the kind of the cell of a line
abbrev pub line_kind : HeapLine → Option Kind
line_kind line = option_map kind_of line.cell.form

-- where a cell is found: of leads its line, of slots the text of its form
abbrev pub place_of : Elements → HeapLine → ℕ
place_of (kept.Leads leads) line = line.at
place_of (kept.Slots slots) line = line.from

-- what is kept as the size of a cell: beside leads its words, beside slots the bytes of the text of its form
abbrev pub size_of : Elements → HeapLine → ℕ
size_of (kept.Leads leads) line = words_in line.cell.form
size_of (kept.Slots slots) line = length line.text

-- of a line and a text the one that is kept beside these elements
abbrev pub chosen : Elements → ℕ × ℕ → ℕ × ℕ → ℕ × ℕ
chosen (kept.Leads leads) line text = line
chosen (kept.Slots slots) line text = text

-- what is held beside these elements of lines whose elements begin at this place
abbrev pub parts_of : Elements → ℕ → List HeapLine → List CellPart
parts_of e first [] = []
parts_of e first (line ∷ lines) =
    record { address = line.cell.address; at = place_of e line; first = first; size = size_of e line }
    ∷ parts_of e (first + length (leads_in line.cell.form)) lines

-- the addresses of parts
abbrev pub addresses_of : List CellPart → List ℕ
addresses_of parts = map (λ p. p.address) parts

-- where the elements of the part with a number begin; past the last one, where all elements end
abbrev pub start_at : List CellPart → ℕ → ℕ → ℕ
start_at parts i total = option_map_or (λ p. p.first) (slice_get parts i) total

-- where the elements of a line lead
abbrev pub line_leads : HeapLine → List Lead
line_leads line = leads_in line.cell.form

-- the elements of each line come behind those of the line before
abbrev pub AllInLines : List HeapLine → List Found → Type 0
AllInLines [] fs = fs ≡ []
AllInLines (line ∷ lines) fs =
    (one : List Found) × (others : List Found) × (fs ≡ one ++ others) × AreIn line.from line.text line.cell.form one × AllInLines lines others

-- these are the elements of lines
pub record AreInLines (lines : List HeapLine) (fs : List Found) : Type 0 where
  pub each : AllInLines lines fs

-- the elements of these lines were appended
pub record GainsElements (old new : Elements) (lines : List HeapLine) : Type 0 where
  pub fs : List Found
  pub are : AreInLines lines fs
  pub appended : Appends old new fs

-- the elements of these lines are kept
pub record HoldsElements (lines : List HeapLine) (elements : Elements) : Type 0 where
  pub fs : List Found
  pub are : AreInLines lines fs
  pub keeps : Keeps elements fs

-- between two states these lines were appended
pub record Gains (old new : Held) (lines : List HeapLine) : Type 0 where
  pub parts : new.parts.items ≡ old.parts.items ++ parts_of old.elements (count old.elements) lines
  pub kinds : new.kinds.items ≡ old.kinds.items ++ map line_kind lines
  pub elements : GainsElements old.elements new.elements lines

-- exactly these lines are held
pub record IsHeld (lines : List HeapLine) (held : Held) : Type 0 where
  pub parts : held.parts.items ≡ parts_of held.elements 0 lines
  pub kinds : held.kinds.items ≡ map line_kind lines
  pub elements : HoldsElements lines held.elements

-- no more cells and elements are held than may be
abbrev pub IsSmall : Held → Type 0
IsSmall held = length held.parts.items + count held.elements ≤ 2 ^ 32 - 2

-- the lines whose address is none of those seen, and isn't that of a line before them
abbrev pub first_lines : List ℕ → List HeapLine → List HeapLine
first_lines seen [] = []
first_lines seen (line ∷ lines) =
    let later = first_lines (seen ++ line.cell.address ∷ []) lines in
    if list_any (λ address. address == line.cell.address) seen then later else line ∷ later
