-- What a walker goes over, and the answer to a root.
use Rattle.std.specs.Prelude.{ℕ, ◌+◌, Bool, true, false, List, ◌++◌, length, codes}
use Rattle.dump_io.specs.Numbers.{hexadecimal}
use Rattle.binary_payloads.specs.declared.enc.Enc.{Enc}
use Rattle.term_forms.specs.Elements.{Element}
use Rattle.heap_cells.specs.Cells.{Cell}
use Rattle.heap_cells.specs.HeapMap.{HeapMap}
use Rattle.binary_refs.specs.declared.entries.Entry.{Entry}
use Rattle.term_unfold.specs.declared.verdict.Verdict.{Verdict}
use Rattle.term_unfold.specs.declared.verdict.Verdict.TheVariants.{Clean, Bad}
use Rattle.term_unfold.specs.Leaves.{leaf_text, leaves}
use Rattle.term_unfold.specs.Text.{reason, show}
use Rattle.term_unfold.specs.Trees.{verdict}
use Rattle.term_unfold.specs.Unfolding.{unfolding_of}

-- a heap, the previews of its references to binaries, and for
-- how many entries of the walks' stack memory has been taken
pub record Walk : Type 0 where
  pub heap : HeapMap
  pub previews : List Entry
  pub reserved : ℕ

-- a walker over a heap and its previews, with room for exactly one more entry than there are cells
abbrev pub new_walk : HeapMap → List Entry → Walk
new_walk heap previews = record { heap = heap; previews = previews; reserved = length heap.cells + 1 }

-- the text of a root over so many nodes, with bad addresses in their places
abbrev pub whole_text : HeapMap → List Entry → Element → ℕ → List ℕ
whole_text heap previews root n = show (leaves heap previews) (unfolding_of heap.cells root) n

-- the first bad address among so many nodes of a root, if there is one
abbrev pub root_verdict : HeapMap → Element → ℕ → Verdict
root_verdict heap root n = verdict (unfolding_of heap.cells root) n

-- the first bad address, or the text if none is bad
abbrev pub judged_text : Verdict → List ℕ → List ℕ
judged_text Clean text = text
judged_text (Bad address why) text = codes "! " ++ (reason why ++ (codes " " ++ hexadecimal address))

-- the answer to a root: its text with bad addresses in their places,
-- or, if they aren't marked, the first of them instead of the text
abbrev pub answer : Enc → List Entry → List Cell → Element → ℕ → Bool → List ℕ
answer enc previews heap root n true = show (leaf_text enc heap previews) (unfolding_of heap root) n
answer enc previews heap root n false = judged_text (verdict (unfolding_of heap root) n) (show (leaf_text enc heap previews) (unfolding_of heap root) n)
