-- The heap lines of a process and of the literals, which stay in the file.
use Rattle.std.specs.Prelude.{◌≡◌, ◌+◌, ◌-◌, ◌*◌, ◌≤◌, ◌||◌, ℕ, Bool, List, ◌++◌, is_some}
use Rattle.std.specs.List.{between}
use Rattle.std.specs.Ordering.{nat_cmp}
use Rattle.dump_io.specs.Dumps.{Now, told, size_of, IsOpen}
use Rattle.binary_payloads.specs.declared.enc.Enc.{Enc}
use Rattle.dump_sections.specs.Places.{place_by}
use Rattle.heap_cells.specs.Cells.{Cell, line_cells}
use Rattle.heap_cells.specs.DumpHeaps.{payloads_of, heap_body, literals_body}
use Rattle.term_unfold.specs.Parts.{Known}
use Rattle.heap_parts.specs.Tables.{IsTableOf}
use Rattle.heap_parts.specs.declared.heap_lines.BodyLines.{BodyLines}
use Rattle.heap_parts.specs.declared.heap_lines.HeapLines.{HeapLines}

-- the cells of all heap lines of two bodies, including repeated addresses
abbrev pub two_cells : Enc → List ℕ → List ℕ → List Cell
two_cells enc heap literals = line_cells enc heap ++ line_cells enc literals

-- the cells of all heap lines of the heap of the process with this pid and of the
-- literals in a dump; its `heap_map` has of each address the first of them
abbrev pub cells_in : List ℕ → List ℕ → List Cell
cells_in pid bytes = two_cells (payloads_of bytes) (heap_body pid bytes) (literals_body bytes)

-- whether one of the tables has the address
abbrev pub is_known : HeapLines → ℕ → Bool
is_known lines address =
    is_some (place_by nat_cmp address lines.heap.table.places) || is_some (place_by nat_cmp address lines.literals.table.places)

-- whether one of the tables has the address among those of lines that may be heap binaries
abbrev pub may_be_binary : HeapLines → ℕ → Bool
may_be_binary lines address =
    is_some (place_by nat_cmp address lines.heap.table.binaries) || is_some (place_by nat_cmp address lines.literals.table.binaries)

-- the addresses of all lines, and those of lines that may be heap binaries
abbrev pub known_of : HeapLines → Known
known_of lines = record { cells = is_known lines; binaries = may_be_binary lines }

-- how many bytes the texts of all heap lines have, each with two for an end of line, at most
abbrev pub text_size : HeapLines → ℕ
text_size lines =
    ((lines.heap.end - lines.heap.from) + (lines.literals.end - lines.literals.from)) + 2 * (lines.heap.table.count + lines.literals.table.count)

-- the bodies end within what is open
pub record ServesLines (lines : HeapLines) (now : Now) : Type 0 where
  pub open_is : IsOpen now
  pub heap : lines.heap.end ≤ size_of now
  pub literals : lines.literals.end ≤ size_of now

-- the bytes of a body in a dump
abbrev pub bytes_of : BodyLines → List ℕ → List ℕ
bytes_of lines dump = between lines.from lines.end dump

-- the table is that of a body of the dump
abbrev pub IsTableIn : List ℕ → BodyLines → Type 0
IsTableIn dump lines = IsTableOf lines.from (bytes_of lines dump) lines.table

-- what is open tells its bytes, the tables are those of two bodies, and these are the cells of their heap lines
pub record HasLines (lines : HeapLines) (now : Now) (all : List Cell) : Type 0 where
  pub dump : List ℕ
  pub is_told : now ≡ told dump
  pub heap : IsTableIn dump lines.heap
  pub literals : IsTableIn dump lines.literals
  pub cells : all ≡ two_cells lines.enc (bytes_of lines.heap dump) (bytes_of lines.literals dump)
