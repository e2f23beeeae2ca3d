-- Where elements lead while not all cells are known, and how that is kept.
use Rattle.std.specs.Prelude.{◌≡◌, ◌-◌, ◌^◌, ◌==◌, ℕ, List, [], ◌∷◌, ◌++◌, map, Option, None, Some, if◌then◌else◌}
use Rattle.std.specs.List.{flat_map}
use Rattle.term_forms.specs.Elements.{Element, Ref}
use Rattle.term_forms.specs.Forms.{HeapForm, SubBin}
use Rattle.heap_graph.specs.Cells.{elements_in}
use Rattle.heap_graph.specs.declared.leads.Lead.{Lead}
use Rattle.heap_graph.specs.declared.leads.Lead.TheVariants as lead
use Rattle.heap_graph.specs.declared.leads.Leads.{Leads}

-- where an element leads
abbrev pub lead_of : Element → Lead
lead_of (Ref address) = lead.Cell address
lead_of element = lead.Nowhere

-- where a cell leads: a sub binary to a heap binary, any other cell where its elements do
abbrev pub leads_in : Option HeapForm → List Lead
leads_in (Some (SubBin address offset size)) = lead.Binary address ∷ []
leads_in form = map lead_of (elements_in form)

-- the number that stands for no cell
abbrev pub nowhere : ℕ
nowhere = 2 ^ 32 - 1

-- what is kept of an element until its address is resolved: whether it has one, and of which kind the cell has to be
abbrev pub mark : Lead → ℕ
mark lead.Nowhere = nowhere
mark (lead.Cell address) = 0
mark (lead.Binary address) = 1

-- the address of an element's lead, if it has one
abbrev pub reference : Lead → List ℕ
reference lead.Nowhere = []
reference (lead.Cell address) = address ∷ []
reference (lead.Binary address) = address ∷ []

-- the marks of where elements lead, in order
abbrev pub marks : List Lead → List ℕ
marks leads = map mark leads

-- the addresses of those of them that have one, in order
abbrev pub references : List Lead → List ℕ
references leads = flat_map reference leads

-- these leads were appended: their marks, and the addresses of those that have one
pub record Pushes (old new : Leads) (leads : List Lead) : Type 0 where
  pub marks : new.marks.items ≡ old.marks.items ++ marks leads
  pub references : new.references.items ≡ old.references.items ++ references leads

-- the cell that a number stands for, if it does
abbrev pub cell_for : ℕ → Option ℕ
cell_for number = if number == nowhere then None else Some number
