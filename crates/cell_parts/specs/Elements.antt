-- The elements of a cell that are weighed: of a list the heads and the last tail, of a hash map what
-- stands below its nodes, and of any other cell what stands at its places.
use Rattle.std.specs.Prelude.{ℕ, zero, suc, ◌==◌, Bool, true, false, not, ◌&&◌, List, [], ◌∷◌, ◌++◌, length, map, codes, Option, None, Some, if◌then◌else◌}
use Rattle.std.specs.List.{enumerate_from}
use Rattle.std.specs.Option.{option_and_then, option_map_or}
use Rattle.cell_records.specs.declared.cells.Kind.{Kind}
use Rattle.cell_records.specs.declared.cells.Kind.TheVariants as kind
use Rattle.cell_graphs.specs.Graphs.{Graph, places_at}
use Rattle.cell_graphs.specs.Frontiers.{is_on}
use Rattle.heap_skeleton.specs.Kinds.{cell_kind}
use Rattle.cell_parts.specs.Parts.{PartElement}

-- where an element stands: the kind of its cell, its place there, and the cell to which it leads
pub record Spot : Type 0 where
  pub kind : Option Kind
  pub place : ℕ
  pub lead : Option ℕ

-- the spots of a cell
abbrev pub spots_of : List (Option Kind) → Graph → ℕ → List Spot
spots_of kinds graph m = map (λ p. record { kind = cell_kind kinds m; place = p.0; lead = p.1 }) (enumerate_from 0 (places_at graph m))

-- whether a place of a cell leads on to more of the same list or the same map: the tail of a
-- list to a list, and a child of a hash map or of a node to a node
abbrev pub leads_on : Option Kind → ℕ → Option Kind → Bool
leads_on (Some kind.List) place (Some kind.List) = place == 1
leads_on (Some kind.Hash) place (Some kind.Node) = true
leads_on (Some kind.Node) place (Some kind.Node) = true
leads_on kind place other = false

-- the cell whose spots stand in the place of the spot, if it leads on to one that wasn't passed
abbrev pub opened_at : List (Option Kind) → List ℕ → Spot → Option ℕ
opened_at kinds passed spot =
    option_and_then (λ m. if leads_on spot.kind spot.place (cell_kind kinds m) && not (is_on m passed) then Some m else None) spot.lead

-- what is weighed at a place: where it leads, but nothing if it is that of a sub binary and leads nowhere
abbrev pub weighed : Option Kind → Option ℕ → List (Option ℕ)
weighed (Some kind.SubBin) None = []
weighed kind lead = lead ∷ []

-- what is weighed at the spots, if at most so many of them open, given the cells that were passed
abbrev pub weighed_at : ℕ → List (Option Kind) → Graph → List ℕ → List Spot → List (Option ℕ)
weighed_at n kinds graph passed [] = []
weighed_at zero kinds graph passed (spot ∷ spots) = weighed spot.kind spot.lead ++ weighed_at zero kinds graph passed spots
weighed_at (suc n) kinds graph passed (spot ∷ spots) =
    option_map_or (λ m. weighed_at n kinds graph (m ∷ passed) (spots_of kinds graph m ++ spots)) (opened_at kinds passed spot)
    (weighed spot.kind spot.lead ++ weighed_at (suc n) kinds graph passed spots)

-- the elements of a cell that are weighed: for each the cell to which it leads, if to one.
-- Each spot that opens passes another cell that has a kind, so that no more open.
abbrev pub weighed_leads : List (Option Kind) → Graph → ℕ → List (Option ℕ)
weighed_leads kinds graph cell = weighed_at (length kinds) kinds graph (cell ∷ []) (spots_of kinds graph cell)

-- these leads as elements: each has its number among them as its place, and a label that says nothing
abbrev pub placed_leads : List (Option ℕ) → List PartElement
placed_leads leads = map (λ p. record { lead = p.1; at = p.0; label = codes "-" }) (enumerate_from 0 leads)

-- the elements of a cell that are weighed, as those of which parts are made
abbrev pub cell_elements : List (Option Kind) → Graph → ℕ → List PartElement
cell_elements kinds graph cell = placed_leads (weighed_leads kinds graph cell)
