-- The binaries of a dump and their holders.
use Rattle.std.specs.Prelude.{ℕ, ◌*◌, ◌<◌, List, [], ◌∷◌, filter, map, nat_lt, codes}
use Rattle.std.specs.List.{count_by, flat_map, sum_by}
use Rattle.dump_sections.specs.Bodies.{body_size}
use Rattle.dump_sections.specs.Index.{Contents, sections_in}
use Rattle.dump_sections.specs.Lookups.{has_tag}
use Rattle.heap_cells.specs.Loading.{heap_section}
use Rattle.process_table.specs.Numbers.{binary_bytes}
use Rattle.process_table.specs.Processes.{Process}
use Rattle.binary_holders.specs.declared.rows.BinaryRow.{BinaryRow}
use Rattle.binary_holders.specs.declared.rows.Holding.{Holding}
use Rattle.binary_holders.specs.declared.rows.WholeLines.{WholeLines}
use Rattle.binary_holders.specs.declared.using.BinaryUse.{BinaryUse}
use Rattle.binary_holders.specs.declared.targets.Binary.{Binary}
use Rattle.binary_holders.specs.declared.texts.Reference.{Reference}
use Rattle.text_groups.specs.Sums.{capped}
use Rattle.binary_holders.specs.Held.{BinaryHeap, has_binaries, holdings, holders_of, is_holder, whole_lines}
use Rattle.binary_holders.specs.HeapReferences.{numbers_referred, references_of}
use Rattle.text_groups.specs.Sorting.{most_first}
use Rattle.binary_holders.specs.StoredBinaries.{Stored, stored, size_in}

-- the pids of these processes
abbrev pub pids_of : List Process → List (List ℕ)
pids_of processes = map (λ process. process.pid) processes

-- to which binaries the heaps of these pids refer, in their order
abbrev pub heaps_of : List ℕ → Contents → List (List ℕ) → List (List ℕ)
heaps_of dump index pids = map (λ pid. numbers_referred (references_of dump index pid)) pids

-- the references of all lines of these heaps
abbrev pub lines_of : List ℕ → Contents → List (List ℕ) → List Reference
lines_of dump index pids = flat_map (references_of dump index) pids

-- what a process has of binaries
abbrev pub binary_heap : List ℕ → Contents → Process → BinaryHeap
binary_heap dump index process = record { counted = binary_bytes process; references = references_of dump index process.pid }

-- what each process holds of these binaries
abbrev pub held_of : List ℕ → Contents → List Process → List Binary → List Holding
held_of dump index processes binaries = holdings binaries (map (binary_heap dump index) processes)

-- the stored binaries of a dump
abbrev pub stored_in : Contents → List Stored
stored_in index = stored (sections_in index)

-- a stored binary as its number and its size
abbrev pub sized_binary : List ℕ → Stored → Binary
sized_binary dump binary = record { number = binary.number; size = size_in dump binary }

-- the stored binaries of a dump as their numbers and sizes
abbrev pub binaries_in : List ℕ → Contents → List Binary
binaries_in dump index = map (sized_binary dump) (stored_in index)

-- the row of a stored binary: its size, how many heaps hold it, its number, and the offset of its section
abbrev pub binary_row : List ℕ → List (List ℕ) → Stored → BinaryRow
binary_row dump heaps binary = record {
  size = size_in dump binary;
  holders = holders_of heaps binary.number;
  number = binary.number;
  at = binary.section.at;
}

-- the rows of the stored binaries, in dump order
abbrev pub rows_in : List ℕ → Contents → List (List ℕ) → List BinaryRow
rows_in dump index heaps = map (binary_row dump heaps) (stored_in index)

-- what is found of the binaries of a dump: which processes have how much of them; the binaries, the
-- largest first; their sizes together; how many of them a process holds; how many lines of heaps refer
-- to whole binaries, and how many of them to none that is stored; and what the node counted for all processes
pub record Usage : Type 0 where
  pub held : List Holding
  pub binaries : List BinaryRow
  pub bytes : ℕ
  pub with_holders : ℕ
  pub lines : WholeLines
  pub counted : ℕ

-- holdings by what the node counted, the most first; where that is the same, by the sizes of the binaries
abbrev pub most_counted : List Holding → List Holding
most_counted holdings = most_first (λ holding. holding.counted) (most_first (λ holding. holding.total) holdings)

-- the use of the binaries of a dump by these processes
abbrev pub usage_of : List ℕ → Contents → List Process → Usage
usage_of dump index processes =
    let binaries = binaries_in dump index in
    let rows = rows_in dump index (heaps_of dump index (pids_of processes)) in
    record {
      held = most_counted (filter has_binaries (held_of dump index processes binaries));
      binaries = most_first (λ row. row.size) rows;
      bytes = capped (sum_by (λ binary. binary.size) binaries);
      with_holders = count_by (λ row. nat_lt 0 row.holders) rows;
      lines = whole_lines binaries (lines_of dump index (pids_of processes));
      counted = capped (sum_by binary_bytes processes);
    }

-- the value of what was found, regardless of where it lies in memory
abbrev pub shown_use : BinaryUse → Usage
shown_use found = record {
  held = found.held.items;
  binaries = found.binaries.items;
  bytes = found.bytes;
  with_holders = found.with_holders;
  lines = found.lines;
  counted = found.counted;
}

-- a holding is that of one of this many processes
abbrev pub NamesProcess : ℕ → Holding → Type 0
NamesProcess count holding = holding.process < count

-- which of these processes hold the binary with a number, by how many cells, and the first of these
abbrev pub holders_in : List ℕ → Contents → List Process → ℕ → List Holding
holders_in dump index processes number = filter is_holder (held_of dump index processes (record { number = number; size = 0 } ∷ []))

-- how many bytes the heaps of these pids have together
abbrev pub heaps_length : Contents → List (List ℕ) → ℕ
heaps_length index pids = sum_by (λ pid. body_size (heap_section pid (sections_in index))) pids

-- how many bytes may be read of the `binary` sections: 17 of each, which are a number of 16 digits and its `:`
abbrev pub fronts_length : Contents → ℕ
fronts_length index = 17 * count_by (λ section. has_tag (codes "binary") section.text) (sections_in index)
