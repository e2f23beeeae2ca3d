-- Where binaries and heaps stand.
use Rattle.std.specs.Prelude.{◌≡◌, ◌≢◌, ℕ, ◌<◌, ◌^◌, List, length, map, position, slice_index, Option, None, Some, codes}
use Rattle.std.specs.BTreeMap.{BTreeMap, get}
use Rattle.std.specs.List.{sum_by}
use Rattle.std.specs.Ordering.{nat_cmp}
use Rattle.dump_sections.specs.Bodies.{section_in, body_in, body_size}
use Rattle.dump_sections.specs.Index.{Contents, sections_in}
use Rattle.dump_sections.specs.Lookups.{is_named}
use Rattle.dump_sections.specs.Sections.{Section}
use Rattle.heap_cells.specs.Loading.{enc_of}
use Rattle.process_table.specs.Numbers.{binary_bytes}
use Rattle.process_table.specs.Processes.{Process}
use Rattle.binary_holders.specs.declared.targets.Binary.{Binary}
use Rattle.binary_holders.specs.declared.texts.Reference.{Reference}
use Rattle.binary_holders.specs.HeapReferences.{numbers_referred, references}
use Rattle.binary_holders.specs.Held.{BinaryHeap}

-- the place of a number among others, if no other place has it; `None` if it isn't among them
abbrev pub IsOnlyPlace : List ℕ → ℕ → Option ℕ → Type 0
IsOnlyPlace numbers number None = (k : ℕ) → k < length numbers → slice_index numbers k ≢ number
IsOnlyPlace numbers number (Some p) =
    (p < length numbers) × (slice_index numbers p ≡ number) × ((k : ℕ) → k < length numbers → slice_index numbers k ≡ number → k ≡ p)

-- the numbers of some binaries
abbrev pub numbers_in : List Binary → List ℕ
numbers_in binaries = map (λ binary. binary.number) binaries

-- a tree has the place of each number, and no number occurs twice
pub record ArePlaces (places : BTreeMap ℕ ℕ) (numbers : List ℕ) : Type 0 where
  pub only : (number : ℕ) → IsOnlyPlace numbers number (get nat_cmp places number)

-- a tree has the place of the number of each binary, no number occurs twice, and this is the sum of the sizes, a number of 128 bits
pub record AreTargets (tree : BTreeMap ℕ ℕ) (binaries : List Binary) (sum : ℕ) : Type 0 where
  pub places : ArePlaces tree (numbers_in binaries)
  pub total : sum ≡ sum_by (λ binary. binary.size) binaries
  pub small : sum < 2 ^ 128

-- the place of the heap of a pid: the first of the sections with heaps that has the pid
abbrev pub heap_place : List Section → List ℕ → Option ℕ
heap_place sections pid = position (λ section. is_named (codes "proc_heap") (Some pid) section.text) sections

-- what the heap at a place refers to, from the bytes of a dump; a process without a heap refers to nothing
abbrev pub references_at : List ℕ → Contents → Option ℕ → List Reference
references_at dump index place = references (enc_of index.version) (body_in dump (section_in index place))

-- the numbers of the binaries to which the heap at a place refers
abbrev pub numbers_at : List ℕ → Contents → Option ℕ → List ℕ
numbers_at dump index place = numbers_referred (references_at dump index place)

-- what a process has of binaries, by the place of its heap
abbrev pub binaries_at : List ℕ → Contents → Process → BinaryHeap
binaries_at dump index process =
    record { counted = binary_bytes process; references = references_at dump index (heap_place (sections_in index) process.pid) }

-- how many bytes the heap at a place has
abbrev pub size_at : Contents → Option ℕ → ℕ
size_at index place = body_size (section_in index place)
