-- The skeleton that its parts stand for.
use Rattle.std.specs.Prelude.{◌≡◌, ℕ, ◌<◌, ◌≤◌, List, [], ◌∷◌, length, map, slice_index_or, slice_range, Option, ◌^◌}
use Rattle.cell_records.specs.declared.cells.Kind.{Kind}
use Rattle.heap_graph.specs.declared.held.CellPart.{CellPart}
use Rattle.heap_graph.specs.Leads.{cell_for}
use Rattle.cell_records.specs.Order.{IsOrder}
use Rattle.cell_graphs.specs.Graphs.{Graph, LeadsWithin, graph_of}
use Rattle.heap_graph.specs.Held.{HeapLine, addresses_of, line_kind}
use Rattle.heap_graph.specs.Words.{words_in}
use Rattle.heap_skeleton.specs.Skeletons.{SkeletonMap}

-- where the elements of the first of these parts begin; if there is none, where all elements end
abbrev pub start_of : List CellPart → ℕ → ℕ
start_of [] total = total
start_of (part ∷ parts) total = part.first

-- for each part where its elements begin
abbrev pub starts_of : List CellPart → List ℕ
starts_of parts = map (λ part. part.first) parts

-- the elements of each part: they end where those of the next begin
abbrev pub leads_from : List CellPart → List ℕ → Graph
leads_from [] leads = []
leads_from (part ∷ parts) leads =
    map cell_for (slice_range leads part.first (start_of parts (length leads))) ∷ leads_from parts leads

-- the elements of each part begin where or after those of the one before it do, and end within this many
abbrev pub AreLaid : List CellPart → ℕ → Type 0
AreLaid [] total = Unit {0}
AreLaid (part ∷ parts) total = (part.first ≤ start_of parts total) × (start_of parts total ≤ total) × AreLaid parts total

-- the skeleton
abbrev pub shown_skeleton : ℕ → List CellPart → List (Option Kind) → List ℕ → SkeletonMap
shown_skeleton own parts kinds leads = record {
  own = own;
  addresses = addresses_of parts;
  lines = map (λ p. p.at) parts;
  kinds = kinds;
  words = map (λ p. p.size) parts;
  leads = leads_from parts leads;
}

-- what holds of the parts of a skeleton
pub record IsSound (own : ℕ) (parts : List CellPart) (kinds : List (Option Kind)) (leads order : List ℕ) : Type 0 where
  pub few : length parts < 2 ^ 32
  pub own_few : own ≤ length parts
  pub kinds_are : length kinds ≡ length parts
  pub laid : AreLaid parts (length leads)
  pub leads_within : LeadsWithin (leads_from parts leads)
  pub order_is : IsOrder (addresses_of parts) order

-- the skeleton of the cells of lines with different addresses
abbrev pub skeleton_with : ℕ → List HeapLine → SkeletonMap
skeleton_with own lines = record {
  own = own;
  addresses = map (λ line. line.cell.address) lines;
  lines = map (λ line. line.at) lines;
  kinds = map line_kind lines;
  words = map (λ line. words_in line.cell.form) lines;
  leads = graph_of (map (λ line. line.cell) lines);
}

-- where the elements of a part begin and end
abbrev pub IsSpanOf : List CellPart → List ℕ → ℕ → ℕ × ℕ → Type 0
IsSpanOf parts leads cell span =
    (span.0 ≤ span.1) × (span.1 ≤ length leads) × (slice_index_or (leads_from parts leads) cell [] ≡ map cell_for (slice_range leads span.0 span.1))
