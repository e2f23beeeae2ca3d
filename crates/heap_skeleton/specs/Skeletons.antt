-- The skeleton of a heap: what leads where in it, without its texts.
use Rattle.std.specs.Prelude.{ℕ, ◌==◌, ◌++◌, Bool, true, false, List, [], ◌∷◌, map, slice_index_or, Option, None, Some, if◌then◌else◌}
use Rattle.std.specs.List.{list_any}
use Rattle.std.specs.Option.{option_map}
use Rattle.cell_graphs.specs.Graphs.{Graph, graph_of}
use Rattle.cell_records.specs.declared.cells.Kind.{Kind}
use Rattle.cell_records.specs.declared.cells.Kind.TheVariants as kind
use Rattle.heap_graph.specs.Words.{words_list}
use Rattle.dump_sections.specs.Bodies.{body_in, body_start}
use Rattle.dump_sections.specs.Index.{Contents, sections_in}
use Rattle.dump_sections.specs.Sections.{Section}
use Rattle.heap_cells.specs.Cells.{addresses, kind_of}
use Rattle.heap_cells.specs.DumpHeaps.{heap_with}
use Rattle.heap_cells.specs.HeapMap.{HeapMap}
use Rattle.heap_cells.specs.Loading.{enc_of, heap_section, literals_section}
use Rattle.heap_cells.specs.Places.{placed_lines}

-- of each cell, by number: its address; the offset in the file of its line; the kind of its form, or none
-- if it is malformed; its words; and the cells to which it leads. The first `own` are the process's own
pub record SkeletonMap : Type 0 where
  pub own : ℕ
  pub addresses : List ℕ
  pub lines : List ℕ
  pub kinds : List (Option Kind)
  pub words : List ℕ
  pub leads : Graph

-- the offsets of the lines whose address is none of those seen, and isn't that of a line before them
abbrev pub first_places : List ℕ → List (ℕ × ℕ) → List ℕ
first_places seen [] = []
first_places seen (line ∷ lines) =
    let later = first_places (seen ++ line.0 ∷ []) lines in
    if list_any (λ address. address == line.0) seen then later else line.1 ∷ later

-- where the lines of the cells begin whose bodies are those of these sections
abbrev pub lines_in : List ℕ → Option Section → Option Section → List ℕ
lines_in dump heap literals =
    first_places []
    (placed_lines (body_start heap) (body_in dump heap) ++ placed_lines (body_start literals) (body_in dump literals))

-- the skeleton of a heap whose lines begin at these offsets
abbrev pub skeleton_of : HeapMap → List ℕ → SkeletonMap
skeleton_of heap lines = record {
  own = heap.own;
  addresses = addresses heap.cells;
  lines = lines;
  kinds = map (λ cell. option_map kind_of cell.form) heap.cells;
  words = words_list heap.cells;
  leads = graph_of heap.cells;
}

-- the heap in two sections of a dump
abbrev pub heap_in : List ℕ → Contents → Option Section → Option Section → HeapMap
heap_in dump index heap literals = heap_with (enc_of index.version) (body_in dump heap) (body_in dump literals)

-- the skeleton of the heap in two sections of a dump
abbrev pub skeleton_in : List ℕ → Contents → Option Section → Option Section → SkeletonMap
skeleton_in dump index heap literals = skeleton_of (heap_in dump index heap literals) (lines_in dump heap literals)

-- the skeleton of the heap of the process with this pid
abbrev pub skeleton_for : List ℕ → Contents → List ℕ → SkeletonMap
skeleton_for dump index pid =
    let sections = sections_in index in
    skeleton_in dump index (heap_section pid sections) (literals_section sections)

-- whether a cell of this kind is a tuple
abbrev pub is_tuple_kind : Option Kind → Bool
is_tuple_kind (Some kind.Tuple) = true
is_tuple_kind other = false

-- whether the cell with a number is a tuple
abbrev pub is_tuple : SkeletonMap → ℕ → Bool
is_tuple s cell = is_tuple_kind (slice_index_or s.kinds cell None)
