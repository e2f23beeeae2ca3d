-- What the stack stands for: the nodes that the walk has yet to come to.
use Rattle.std.specs.Prelude.{◌≡◌, ℕ, ◌<◌, Bool, List, [], ◌∷◌, ◌++◌, drop, length, Option, None, Some}
use Rattle.std.specs.Option.{option_and_then}
use Rattle.term_forms.specs.Forms.{HeapForm, SubBin}
use Rattle.heap_cells.specs.Cells.{Cell}
use Rattle.heap_cells.specs.HeapMap.{HeapMap, form_at}
use Rattle.cell_records.specs.declared.cells.Why.TheVariants.{Missing}
use Rattle.heap_cells.specs.Targets.{number}
use Rattle.term_unfold.specs.declared.gaps.Asked.{Asked}
use Rattle.term_unfold.specs.declared.gaps.Asked.TheVariants.{BinaryAt, CellAt}
use Rattle.term_unfold.specs.declared.openings.Opened.{Opened}
use Rattle.term_unfold.specs.declared.openings.Opened.TheVariants as opened
use Rattle.term_unfold.specs.declared.path.Entry.{Entry}
use Rattle.term_unfold.specs.declared.verdict.Verdict.{Verdict}
use Rattle.term_unfold.specs.declared.verdict.Verdict.TheVariants as verdicts
use Rattle.term_unfold.specs.Inner.Entries.{path_of, Entered}
use Rattle.term_unfold.specs.Inner.Children.{children_of}
use Rattle.term_unfold.specs.Parts.{Known, asked, if_lacking}
use Rattle.term_unfold.specs.Rules.{Child}
use Rattle.term_unfold.specs.Trees.{Tree, Bad, Trees, pre, pre_all}
use Rattle.term_unfold.specs.Unfolding.{trees, unfolded}

-- the trees of the remaining children of the innermost cell
abbrev pub left_of : List Cell → Entry → List Entry → Trees
left_of heap e es = trees (unfolded heap (path_of heap (e ∷ es))) (drop e.next (children_of heap e.kind (number e.cell)))

abbrev pub to_come : List Cell → List Entry → List Tree
to_come heap [] = []
to_come heap (e ∷ es) = pre_all (left_of heap e es) ++ to_come heap es

-- the nodes of a child of the innermost cell, and behind them those that are still to come
abbrev pub coming_with : List Cell → List Entry → Child → List Tree
coming_with heap entries child = pre (unfolded heap (path_of heap entries) child) ++ to_come heap entries

-- the walk is in one more cell, if it came to a node
abbrev pub entered_by : Opened → Bool → List Entry → List Entry
entered_by (opened.Node ix kind) came entries = record { cell = ix; next = 0; kind = kind; came = came } ∷ entries
entered_by found came entries = entries

-- the verdict on a child by itself
abbrev pub verdict_on : Opened → Verdict
verdict_on (opened.Bad address why) = verdicts.Bad address why
verdict_on found = verdicts.Clean

-- the verdict on a node by itself
abbrev pub seen : Tree → Verdict
seen (Bad address why) = verdicts.Bad address why
seen node = verdicts.Clean

-- of an earlier and a later verdict, the first that is bad
abbrev pub or_else : Verdict → Verdict → Verdict
or_else verdicts.Clean later = later
or_else (verdicts.Bad address why) later = verdicts.Bad address why

-- what the cell of a form asks for, if it is a sub binary
abbrev pub asked_by : Option HeapForm → Option Asked
asked_by (Some (SubBin address offset size)) = Some (BinaryAt address)
asked_by form = None

-- what a child asks for by itself
abbrev pub asked_on : List Cell → Opened → Option Asked
asked_on heap (opened.Bad address Missing) = Some (CellAt address)
asked_on heap (opened.Leaf ix) = asked_by (form_at heap (number ix))
asked_on heap found = None

-- the address of what a child asks for, if the heap lacks it and `known` tells it
abbrev pub gap_on : Known → List Cell → Opened → Option ℕ
gap_on known heap found = option_and_then (if_lacking known heap) (asked_on heap found)

-- the cell of a leaf is one of the heap's
abbrev pub HasLeafIn : List Cell → Opened → Type 0
HasLeafIn heap (opened.Leaf ix) = number ix < length heap
HasLeafIn heap found = Unit {0}

-- a child below the entries was visited and opened as this: its
-- first node is what was opened, and its other nodes are still to come
pub record Visits (heap : List Cell) (before after : List Entry) (child : Child) (found : Opened) : Type 0 where
  pub node : Tree
  pub first : coming_with heap before child ≡ node ∷ to_come heap after
  pub seen : verdict_on found ≡ seen node
  pub asks : asked_on heap found ≡ asked node

-- a child below the cells that a walk is in was visited
abbrev pub VisitsIn : HeapMap → Entered → Entered → Child → Opened → Type 0
VisitsIn heap before after child found = Visits heap.cells before.entries after.entries child found
