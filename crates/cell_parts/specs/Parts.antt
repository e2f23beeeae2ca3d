-- The parts that elements make: the different cells to which they lead.
use Rattle.std.specs.Prelude.{◌≡◌, ℕ, Bool, List, filter, length, take, Option, None, Some, if◌then◌else◌}
use Rattle.std.specs.List.{enumerate_from, filter_map, list_any}
use Rattle.std.specs.Option.{option_and_then}
use Rattle.cell_graphs.specs.Rounds.{is_to}

-- an element that is weighed: the cell to which it leads, if to one, and where it stands, which a number and a text say
pub record PartElement : Type 0 where
  pub lead : Option ℕ
  pub at : ℕ
  pub label : List ℕ

-- a part: its cell, how many elements lead to it, and where the first of them stands
pub record CellPart : Type 0 where
  pub cell : ℕ
  pub elements : ℕ
  pub at : ℕ
  pub label : List ℕ

-- whether an element leads to the cell
abbrev pub is_for : ℕ → PartElement → Bool
is_for cell e = is_to cell e.lead

-- the part of the element at a place in the list, if it leads to a cell to which none before it does
abbrev pub part_at : List PartElement → ℕ × PartElement → Option CellPart
part_at elements (place, e) =
    option_and_then (λ cell.
    if list_any (is_for cell) (take place elements) then None
    else Some (record { cell = cell; elements = length (filter (is_for cell) elements); at = e.at; label = e.label })) e.lead

-- the parts that elements make, in the order of the first that leads to each
abbrev pub parts_made : List PartElement → List CellPart
parts_made elements = filter_map (part_at elements) (enumerate_from 0 elements)

-- how many cells there are, how many elements, and the parts that these make
pub record CellParts : Type 0 where
  pub cells : ℕ
  pub elements : ℕ
  pub parts : List CellPart

-- the parts found are those that these elements make, and the elements are counted
pub record ArePartsOf (elements : List PartElement) (found : CellParts) : Type 0 where
  pub count : found.elements ≡ length elements
  pub parts : found.parts ≡ parts_made elements
