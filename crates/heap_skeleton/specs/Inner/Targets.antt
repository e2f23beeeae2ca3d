-- What elements lead to, among cells with these addresses and kinds.
use Rattle.std.specs.Prelude.{ℕ, Bool, true, false, List, slice_index_or, Option, None, Some, unwrap_or, if◌then◌else◌}
use Rattle.std.specs.Option.{option_and_then}
use Rattle.cell_records.specs.declared.cells.Kind.{Kind}
use Rattle.cell_records.specs.declared.cells.Kind.TheVariants as kind
use Rattle.cell_records.specs.Order.{number_with}
use Rattle.heap_graph.specs.declared.leads.Lead.{Lead}
use Rattle.heap_graph.specs.declared.leads.Lead.TheVariants as lead
use Rattle.heap_graph.specs.Leads.{nowhere}

-- the cell is a heap binary
abbrev pub is_bin : Option Kind → Bool
is_bin (Some kind.HeapBin) = true
is_bin other = false

-- the cell with a number, if it is a heap binary
abbrev pub bin_with : List (Option Kind) → ℕ → Option ℕ
bin_with kinds n = if is_bin (slice_index_or kinds n None) then Some n else None

-- the cell to which an element leads, if there is one
abbrev pub led_to : List ℕ → List (Option Kind) → Lead → Option ℕ
led_to addresses kinds lead.Nowhere = None
led_to addresses kinds (lead.Cell address) = number_with addresses address
led_to addresses kinds (lead.Binary address) = option_and_then (bin_with kinds) (number_with addresses address)

-- the number that stands for it
abbrev pub resolved : List ℕ → List (Option Kind) → Lead → ℕ
resolved addresses kinds l = unwrap_or (led_to addresses kinds l) nowhere

-- where an element leads that has an address: to any cell with it, or to a heap binary alone
abbrev pub lead_to : Bool → ℕ → Lead
lead_to false address = lead.Cell address
lead_to true address = lead.Binary address

-- the number that stands for the cell that was found for such an element
abbrev pub number_for : List (Option Kind) → Bool → Option ℕ → ℕ
number_for kinds false found = unwrap_or found nowhere
number_for kinds true found = unwrap_or (option_and_then (bin_with kinds) found) nowhere
