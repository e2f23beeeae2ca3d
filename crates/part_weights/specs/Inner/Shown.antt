-- Parts with what they alone hold, as they are kept.
use Rattle.std.specs.Prelude.{ℕ, ◌<◌, List, [], length, map, All, Option, None, Some, slice_index_or}
use Rattle.std.specs.List.{enumerate_from}
use Rattle.cell_parts.specs.Parts.{CellPart, CellParts}
use Rattle.heap_graph.specs.Binaries.{binaries_among}
use Rattle.heap_skeleton.specs.Skeletons.{SkeletonMap}
use Rattle.heap_weights.specs.Shares.{AreShares}
use Rattle.heap_weights.specs.declared.shares.Shares.{Shares}
use Rattle.heap_weights.specs.declared.shares.Weight.{Weight}
use Rattle.cell_parts.specs.Over.{IsOver}
use Rattle.part_weights.specs.Held.{no_part, row_at}
use Rattle.part_weights.specs.Weights.{Row, Weighing}
use Rattle.part_weights.specs.declared.held_parts.HeldPart.{HeldPart}

-- the label of the row at a place: one of these texts, or that of its part
abbrev pub label_at : Option (List (List ℕ)) → ℕ → CellPart → List ℕ
label_at None i part = part.label
label_at (Some texts) i part = slice_index_or texts i []

-- the row at a place, with its label
abbrev pub labelled_row : SkeletonMap → List CellPart → Option (List (List ℕ)) → ℕ × HeldPart → Row
labelled_row heap parts labels (i, held) =
    let part = slice_index_or parts held.part no_part in record (row_at heap parts held) { label = label_at labels i part }

-- the rows of parts that alone hold a cell, with their labels
abbrev pub labelled_rows : SkeletonMap → List CellPart → Option (List (List ℕ)) → List HeldPart → List Row
labelled_rows heap parts labels held = map (labelled_row heap parts labels) (enumerate_from 0 held)

-- a weighing with these parts, of which those that alone hold a cell have rows with labels, and with these sums
abbrev pub weighing_with : SkeletonMap → CellParts → List HeldPart → Option (List (List ℕ)) → Option Weight → Weight → Weight → Weight → Weighing
weighing_with heap parts held labels within shared reached own = record {
  rows = labelled_rows heap parts.parts labels held;
  within = within;
  shared = shared;
  reached = reached;
  own = own;
  elements = parts.elements;
  parts = length parts.parts;
}

-- the parts are of as many cells as the skeleton has, and those that alone hold a cell are some of them
pub record IsSound (heap : SkeletonMap) (parts : CellParts) (held : List HeldPart) : Type 0 where
  pub over : IsOver heap parts
  pub within : All (λ h. h.part < length parts.parts) held

-- these are the shares of the cells of parts
abbrev pub AreParts : SkeletonMap → List CellPart → Shares → Type 0
AreParts heap parts shares = AreShares heap.leads heap.words (binaries_among heap.kinds) heap.own (map (λ part. part.cell) parts) shares
