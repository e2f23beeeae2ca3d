-- Which processes hold which binaries, from what their heaps refer to.
use Rattle.std.specs.Prelude.{ℕ, Bool, ◌&&◌, ◌||◌, not, List, length, map, filter, find, nat_lt}
use Rattle.std.specs.List.{count_by, sum_by, enumerate_from}
use Rattle.std.specs.Option.{option_map_or}
use Rattle.text_groups.specs.Sums.{capped}
use Rattle.binary_holders.specs.declared.rows.Holding.{Holding}
use Rattle.binary_holders.specs.declared.rows.WholeLines.{WholeLines}
use Rattle.binary_holders.specs.declared.targets.Binary.{Binary}
use Rattle.binary_holders.specs.declared.texts.Reference.{Reference}
use Rattle.binary_holders.specs.HeapReferences.{numbers_referred}
use Rattle.binary_holders.specs.StoredBinaries.{is_among}

-- whether a heap with these references holds a binary
abbrev pub holds : List ℕ → Binary → Bool
holds references binary = is_among references binary.number

-- the sizes of the binaries that a heap holds, together; each counts once
abbrev pub bytes_held : List Binary → List ℕ → ℕ
bytes_held binaries references = sum_by (λ binary. binary.size) (filter (holds references) binaries)

-- how many of the references are to one of the binaries
abbrev pub cells_holding : List Binary → List ℕ → ℕ
cells_holding binaries references = count_by (is_among (map (λ binary. binary.number) binaries)) references

-- whether a line refers to one of the binaries
abbrev pub is_known : List Binary → Reference → Bool
is_known binaries line = is_among (map (λ binary. binary.number) binaries) line.number

-- the address of the first of some lines that refers to one of the binaries, or 0 if none does
abbrev pub first_cell : List Binary → List Reference → ℕ
first_cell binaries lines = option_map_or (λ line. line.address) (find (is_known binaries) lines) 0

-- what a process has of binaries: how many bytes the node itself counted for it, and the references of its heap
pub record BinaryHeap : Type 0 where
  pub counted : ℕ
  pub references : List Reference

-- what the process at a place holds
abbrev pub holding_of : List Binary → ℕ × BinaryHeap → Holding
holding_of binaries (process, heap) =
    let numbers = numbers_referred heap.references in
    record {
      process = process;
      counted = heap.counted;
      bytes = capped (bytes_held binaries numbers);
      total = bytes_held binaries numbers;
      count = count_by (holds numbers) binaries;
      lines = length heap.references;
      cells = cells_holding binaries numbers;
      first = first_cell binaries heap.references;
    }

-- what each process holds, in the order of the processes
abbrev pub holdings : List Binary → List BinaryHeap → List Holding
holdings binaries heaps = map (holding_of binaries) (enumerate_from 0 heaps)

-- whether a process holds one of the binaries
abbrev pub is_holder : Holding → Bool
is_holder holding = nat_lt 0 holding.count

-- whether the heap of a process refers to binaries, to some of these or to others, or the node counted some for it
abbrev pub has_binaries : Holding → Bool
has_binaries holding = nat_lt 0 holding.lines || nat_lt 0 holding.counted

-- how many heaps hold the binary with a number
abbrev pub holders_of : List (List ℕ) → ℕ → ℕ
holders_of heaps number = count_by (λ references. is_among references number) heaps

-- whether a line refers to a whole binary that is none of these
abbrev pub is_unstored : List Binary → Reference → Bool
is_unstored binaries line = line.whole && not (is_among (map (λ binary. binary.number) binaries) line.number)

-- how many of some lines refer to whole binaries, and how many of them to none of these binaries
abbrev pub whole_lines : List Binary → List Reference → WholeLines
whole_lines binaries lines = record {
  count = capped (count_by (λ line. line.whole) lines);
  unstored = capped (count_by (is_unstored binaries) lines);
}
