-- A part of a heap, and the nodes of its terms that ask for a cell that only the whole heap has.
use Rattle.std.specs.Prelude.{◌≡◌, ℕ, Bool, false, List, [], ◌∷◌, take, Option, None, Some, IsSome, is_some, if◌then◌else◌}
use Rattle.std.specs.Option.{option_and_then, option_or}
use Rattle.dump_sections.specs.Index.{Contents}
use Rattle.binary_payloads.specs.declared.enc.Enc.{Enc}
use Rattle.binary_refs.specs.Previews.{heap_binary, previews_of}
use Rattle.term_forms.specs.Elements.{Element}
use Rattle.term_forms.specs.Forms.{SubBin}
use Rattle.heap_cells.specs.Cells.{Cell}
use Rattle.heap_cells.specs.HeapMap.{number_at}
use Rattle.cell_records.specs.declared.cells.Why.TheVariants.{Missing}
use Rattle.term_unfold.specs.declared.gaps.Asked.{Asked}
use Rattle.term_unfold.specs.declared.gaps.Asked.TheVariants.{BinaryAt, CellAt}
use Rattle.term_unfold.specs.Maps.{form_at_address}
use Rattle.term_unfold.specs.Trees.{OfCell, Tree, Leaf, Bad, pre}
use Rattle.term_unfold.specs.Unfolding.{unfolding_of}
use Rattle.term_unfold.specs.Walks.{answer}

-- each cell of the part has the form that the whole heap has at its address
pub record IsPartOfHeap (part whole : List Cell) : Type 0 where
  pub forms : (a : ℕ) → IsSome (number_at part a) → form_at_address part a ≡ form_at_address whole a

-- whether a cell has the address
abbrev pub has_cell : List Cell → ℕ → Bool
has_cell heap a = is_some (number_at heap a)

-- whether the cell at an address is a heap binary
abbrev pub has_binary : List Cell → ℕ → Bool
has_binary heap a = is_some (heap_binary heap a)

-- which addresses a heap has: those of its cells, and those of its heap binaries
pub record Known : Type 0 where
  pub cells : ℕ → Bool
  pub binaries : ℕ → Bool

-- the addresses that a heap has
abbrev pub known_in : List Cell → Known
known_in heap = record { cells = has_cell heap; binaries = has_binary heap }

-- the address of the cell or the heap binary that is asked for
abbrev pub asked_address : Asked → ℕ
asked_address (CellAt a) = a
asked_address (BinaryAt a) = a

-- whether `known` tells what is asked for
abbrev pub is_told : Known → Asked → Bool
is_told known (CellAt a) = known.cells a
is_told known (BinaryAt a) = known.binaries a

-- what a node asks for beside its cell: the cell at an address where one is missing, or of a sub binary the heap binary
abbrev pub asked : Tree → Option Asked
asked (Bad address Missing) = Some (CellAt address)
asked (Leaf (OfCell a (SubBin address offset size))) = Some (BinaryAt address)
asked node = None

-- whether `known` tells what is asked for, and the part has no cell there
abbrev pub is_lacking : Known → List Cell → Asked → Bool
is_lacking known part ask = if has_cell part (asked_address ask) then false else is_told known ask

-- the address of what is asked for, if `known` tells it and the part has no cell there
abbrev pub if_lacking : Known → List Cell → Asked → Option ℕ
if_lacking known part ask = if is_lacking known part ask then Some (asked_address ask) else None

-- the address of what a node asks for, if the part lacks it
abbrev pub gap_at : Known → List Cell → Tree → Option ℕ
gap_at known part node = option_and_then (if_lacking known part) (asked node)

-- the first address that `gap` gives for one of the nodes, in order
abbrev pub first_gap : (Tree → Option ℕ) → List Tree → Option ℕ
first_gap gap [] = None
first_gap gap (node ∷ nodes) = option_or (gap node) (first_gap gap nodes)

-- the address of what the first n nodes of a root ask for first, that `known` tells and the part lacks
abbrev pub gap_of : Known → List Cell → Element → ℕ → Option ℕ
gap_of known part root n = first_gap (gap_at known part) (take n (pre (unfolding_of part root)))

-- the answer to a root over a heap, with the previews of its cells
abbrev pub answer_in : List ℕ → Contents → Enc → List Cell → Element → ℕ → Bool → List ℕ
answer_in dump index enc heap root n marked = answer enc (previews_of dump index enc heap) heap root n marked

-- a part gives the whole heap's answer to a root, if none of the first
-- n nodes over the part asks for what only the whole has
abbrev pub IsEnoughOf : List Cell → List Cell → Type 0
IsEnoughOf part whole = (dump : List ℕ) (index : Contents) (enc : Enc) (root : Element) (n : ℕ) (marked : Bool)
    → gap_of (known_in whole) part root n ≡ None → answer_in dump index enc part root n marked ≡ answer_in dump index enc whole root n marked
