-- What a walker goes over in the bytes of a dump.
use Rattle.std.specs.Prelude.{ℕ, List}
use Rattle.dump_sections.specs.Index.{index_of}
use Rattle.heap_cells.specs.DumpHeaps.{heap_map}
use Rattle.heap_cells.specs.HeapMap.{HeapMap}
use Rattle.binary_refs.specs.declared.entries.Entry.{Entry}
use Rattle.binary_refs.specs.Previews.{previews_of}
use Rattle.term_unfold.specs.Walks.{Walk, new_walk}

-- what the references of a heap to binaries show
abbrev pub previews_in : List ℕ → HeapMap → List Entry
previews_in bytes heap = previews_of bytes (index_of bytes) heap.enc heap.cells

-- the heap of a process with what its references to binaries show
abbrev pub walk_of : List ℕ → List ℕ → Walk
walk_of pid bytes = new_walk (heap_map pid bytes) (previews_in bytes (heap_map pid bytes))
