-- Hearing the lines of cells, in the order of the offsets at which they begin.
use Rattle.std.specs.Prelude.{◌≡◌, ℕ, ◌+◌, ◌-◌, ◌<◌, ◌≤◌, Bool, true, false, nat_lt, if◌then◌else◌, List, [], ◌∷◌, ◌++◌, length, drop, map, slice_index_or, take, All, Option, None, Some}
use Rattle.std.specs.List.Sorted.{IsPartitionPoint}
use Rattle.std.specs.Option.{option_and_then}
use Rattle.binary_payloads.specs.declared.enc.Enc.{Enc}
use Rattle.body_lines.specs.Lines.{lines_at}
use Rattle.dump_io.specs.Dumps.{Now, IfTold}
use Rattle.dump_io.specs.Lines.{Line, raw_lines, text_of}
use Rattle.dump_sections.specs.Bodies.{body_in, body_start}
use Rattle.dump_sections.specs.Sections.{Section}
use Rattle.cell_records.specs.declared.cells.Kind.{Kind}
use Rattle.cell_records.specs.declared.cells.Kind.TheVariants as kind
use Rattle.heap_skeleton.specs.Skeletons.{SkeletonMap}
use Rattle.term_forms.specs.Elements.{Element}
use Rattle.term_forms.specs.Forms.{HeapForm, Cons, Tuple}
use Rattle.term_forms.specs.ReadingForms.{form_of}
use Rattle.term_forms.specs.Words.{led_of}
use Rattle.tuple_fronts.specs.declared.front_sink.FrontSink.{FrontSink}
use Rattle.tuple_fronts.specs.declared.kept.Kept.{Kept}
use Rattle.tuple_fronts.specs.Inner.Kept.{IsKept, Keeps}

-- ---- one line

-- the elements of a tuple or a list, if the form is one
abbrev pub listed_elements : Option HeapForm → Option (List Element)
listed_elements (Some (Tuple elements)) = Some elements
listed_elements (Some (Cons head tail)) = Some (head ∷ tail ∷ [])
listed_elements form = None

-- whether a cell of this kind is a tuple or a list
abbrev pub is_listed_kind : Option Kind → Bool
is_listed_kind (Some kind.Tuple) = true
is_listed_kind (Some kind.List) = true
is_listed_kind other = false

-- whether the cell with a number is
abbrev pub is_listed : SkeletonMap → ℕ → Bool
is_listed s cell = is_listed_kind (slice_index_or s.kinds cell None)

-- what is known of the elements of a cell by its line, if it is a tuple or a list; any other cell keeps none
abbrev pub known_elements : Enc → Bool → List ℕ → Option (List Element)
known_elements enc true raw = option_and_then (λ led. listed_elements (form_of enc led.1)) (led_of (text_of raw))
known_elements enc false raw = Some []

-- the offset at which the line of a cell begins
abbrev pub line_of : SkeletonMap → ℕ → ℕ
line_of s cell = slice_index_or s.lines cell 0

-- ---- several lines

-- the cells that are left behind a line: the first of them is taken if its line begins before the end of this one
abbrev pub left_line : SkeletonMap → Line → List ℕ → List ℕ
left_line s line [] = []
left_line s line (cell ∷ cells) = if nat_lt (line_of s cell) (line.at + length line.raw) then cells else cell ∷ cells

-- what is known of the elements of the cell that is taken, if one is: the line is read from the offset of the cell on
abbrev pub known_line : SkeletonMap → Enc → Line → List ℕ → List (Option (List Element))
known_line s enc line [] = []
known_line s enc line (cell ∷ cells) =
    if nat_lt (line_of s cell) (line.at + length line.raw)
    then known_elements enc (is_listed s cell) (drop (line_of s cell - line.at) line.raw) ∷ [] else []

-- the cells that are left behind several lines
abbrev pub left_behind : SkeletonMap → List Line → List ℕ → List ℕ
left_behind s [] cells = cells
left_behind s (line ∷ lines) cells = left_behind s lines (left_line s line cells)

-- what is known of those that are taken
abbrev pub known_of : SkeletonMap → Enc → List Line → List ℕ → List (Option (List Element))
known_of s enc [] cells = []
known_of s enc (line ∷ lines) cells = known_line s enc line cells ++ known_of s enc lines (left_line s line cells)

-- what is known of all cells: nothing of those that are left
abbrev pub all_known : SkeletonMap → Enc → List Line → List ℕ → List (Option (List Element))
all_known s enc lines cells = known_of s enc lines cells ++ map (λ cell. None) (left_behind s lines cells)

-- ---- the sink

-- a skeleton has these cells
abbrev pub HasCells : SkeletonMap → List ℕ → Type 0
HasCells s cells = All (λ cell. cell < length s.addresses) cells

-- the fronts of the cells of these lines were kept
pub record TakesFronts (old new : FrontSink) (lines : List Line) : Type 0 where
  pub skeleton : new.skeleton ≡ old.skeleton
  pub enc : new.enc ≡ old.enc
  pub left : new.cells.now ≡ left_behind old.skeleton.now lines old.cells.now
  pub keeps : Keeps old.kept new.kept (known_of old.skeleton.now old.enc lines old.cells.now)

-- a step over a rest of a run, the first line of which begins at an offset: the line of the cell begins
-- behind the rest; or its front was kept, and so many bytes of the rest end with its line
abbrev pub KeepsNext : SkeletonMap → Enc → ℕ → ℕ → List ℕ → Kept → Kept → Option ℕ → Type 0
KeepsNext s enc cell line rest old new None = (new ≡ old) × (length rest ≤ line_of s cell - line)
KeepsNext s enc cell line rest old new (Some size) =
    (raw : List ℕ) × (raw_lines (drop (line_of s cell - line) rest) ≡ raw ∷ raw_lines (drop size rest))
    × (size ≡ (line_of s cell - line) + length raw) × (0 < length raw) × (size ≤ length rest)
    × Keeps old new (known_elements enc (is_listed s cell) raw ∷ [])

-- the lines of the body of a section
abbrev pub section_lines : List ℕ → Option Section → List Line
section_lines dump found = lines_at (body_start found) (body_in dump found)

-- the fronts of the cells of some lines were kept: of those of a section, if the device tells the bytes of what is open
pub record HearsSection (old new : FrontSink) (now : Now) (found : Option Section) : Type 0 where
  pub lines : List Line
  pub takes : TakesFronts old new lines
  pub are : IfTold now (λ dump. lines ≡ section_lines dump found)

-- fronts of all these cells were kept, of whose lines these are known: those of a section
pub record KeepsSection (s : SkeletonMap) (enc : Enc) (now : Now) (found : Option Section) (cells : List ℕ) (old new : Kept) : Type 0 where
  pub lines : List Line
  pub keeps : Keeps old new (all_known s enc lines cells)
  pub are : IfTold now (λ dump. lines ≡ section_lines dump found)

-- so many of these cells, which ascend, are among the first `own`
abbrev pub IsSplitAt : ℕ → List ℕ → ℕ → Type 0
IsSplitAt own cells count = IsPartitionPoint (λ n. nat_lt n own ≡ true) (λ n. nat_lt n own ≡ false) cells count

-- the fronts of these cells are kept, of the first of which the lines are in one section and of the others in another
pub record KeepsSections (most : ℕ) (s : SkeletonMap) (enc : Enc) (now : Now) (heap literals : Option Section) (cells : List ℕ) (kept : Kept) : Type 0 where
  pub heap_lines : List Line
  pub literal_lines : List Line
  pub count : ℕ
  pub split : IsSplitAt s.own cells count
  pub most_is : kept.most ≡ most
  pub is : IsKept (all_known s enc heap_lines (take count cells) ++ all_known s enc literal_lines (drop count cells)) kept
  pub heap_are : IfTold now (λ dump. heap_lines ≡ section_lines dump heap)
  pub literals_are : IfTold now (λ dump. literal_lines ≡ section_lines dump literals)
