-- The heap of a process over the bytes of a dump.
use Rattle.std.specs.Prelude.{ℕ, List}
use Rattle.dump_sections.specs.Bodies.{body_in}
use Rattle.dump_sections.specs.Index.{index_of}
use Rattle.dump_sections.specs.Sections.{sections}
use Rattle.binary_payloads.specs.declared.enc.Enc.{Enc}
use Rattle.heap_cells.specs.Cells.{cells_of, own_count, weight}
use Rattle.heap_cells.specs.HeapMap.{HeapMap}
use Rattle.heap_cells.specs.Loading.{enc_of, heap_section, literals_section}

-- how the payloads of a dump are written
abbrev pub payloads_of : List ℕ → Enc
payloads_of bytes = enc_of (index_of bytes).version

-- the body of the heap of the process with this pid
abbrev pub heap_body : List ℕ → List ℕ → List ℕ
heap_body pid bytes = body_in bytes (heap_section pid (sections bytes))

-- the body of the literals
abbrev pub literals_body : List ℕ → List ℕ
literals_body bytes = body_in bytes (literals_section (sections bytes))

-- the heap with these bodies
abbrev pub heap_with : Enc → List ℕ → List ℕ → HeapMap
heap_with enc heap literals = record { cells = cells_of enc heap literals; own = own_count enc heap; enc = enc }

-- the heap of the process with this pid
abbrev pub heap_map : List ℕ → List ℕ → HeapMap
heap_map pid bytes = heap_with (payloads_of bytes) (heap_body pid bytes) (literals_body bytes)

-- how many heap lines and elements it has
abbrev pub heap_weight : List ℕ → List ℕ → ℕ
heap_weight pid bytes = weight (payloads_of bytes) (heap_body pid bytes) (literals_body bytes)
