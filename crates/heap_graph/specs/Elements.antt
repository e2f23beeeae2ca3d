-- Elements as they were read, and what is kept of them.
use Rattle.std.specs.Prelude.{◌≡◌, ℕ, ◌+◌, List, [], ◌∷◌, ◌++◌, length, map, Option, Some, All, IfSome}
use Rattle.cell_records.specs.declared.cells.Slot.{Slot}
use Rattle.cell_records.specs.declared.cells.Slot.TheVariants as slot
use Rattle.heap_graph.specs.Cells.{elements_in}
use Rattle.heap_graph.specs.declared.elements.Elements.{Elements}
use Rattle.heap_graph.specs.declared.elements.Elements.TheVariants as kept
use Rattle.heap_graph.specs.declared.leads.Lead.{Lead}
use Rattle.heap_graph.specs.declared.leads.Lead.TheVariants as lead
use Rattle.heap_graph.specs.Leads.{lead_of, marks, references, Pushes}
use Rattle.term_forms.specs.Elements.{Element}
use Rattle.term_forms.specs.Forms.{HeapForm, SubBin}
use Rattle.term_forms.specs.Places.{Placed, StandsAt}

-- an element as it was read: where it leads, how many bytes stand before it, and how many spell it
pub record Found : Type 0 where
  pub lead : Lead
  pub at : ℕ
  pub len : ℕ

-- an element that was read at a place of a text, before which so many bytes stand
abbrev pub found_at : ℕ → Placed → Found
found_at from p = record { lead = lead_of p.element; at = from + p.at; len = p.len }

-- where elements lead
abbrev pub leads_of : List Found → List Lead
leads_of fs = map (λ f. f.lead) fs

-- the slot of an element that leads there and stands at a place
abbrev pub slot_for : Lead → ℕ → ℕ → Slot
slot_for (lead.Cell address) at len = slot.Gone address
slot_for other at len = slot.Imm (record { at = at; len = len })

-- the slots of elements
abbrev pub slots_of : List Found → List Slot
slots_of fs = map (λ f. slot_for f.lead f.at f.len) fs

-- how many elements are kept
abbrev pub count : Elements → ℕ
count (kept.Leads leads) = length leads.marks.items
count (kept.Slots slots) = length slots.items

-- what is kept of these elements
abbrev pub KeepsThem : Elements → List Found → Type 0
KeepsThem (kept.Leads leads) fs = (leads.marks.items ≡ marks (leads_of fs)) × (leads.references.items ≡ references (leads_of fs))
KeepsThem (kept.Slots slots) fs = slots.items ≡ slots_of fs

-- the elements that are kept are these
pub record Keeps (elements : Elements) (fs : List Found) : Type 0 where
  pub are : KeepsThem elements fs

-- the same is kept of these, behind what was kept
abbrev pub AppendsThem : Elements → Elements → List Found → Type 0
AppendsThem (kept.Leads old) (kept.Leads new) fs = Pushes old new (leads_of fs)
AppendsThem (kept.Slots old) (kept.Slots new) fs = new.items ≡ old.items ++ slots_of fs
AppendsThem old new fs = ⊥

-- these elements were appended
pub record Appends (old new : Elements) (fs : List Found) : Type 0 where
  pub them : AppendsThem old new fs

-- leads are kept, and no slots
abbrev pub IsOfLeads : Elements → Type 0
IsOfLeads (kept.Leads leads) = Unit {0}
IsOfLeads (kept.Slots slots) = ⊥

-- slots are kept
abbrev pub IsOfSlots : Elements → Type 0
IsOfSlots (kept.Leads leads) = ⊥
IsOfSlots (kept.Slots slots) = Unit {0}

-- the same is kept of the elements of both
abbrev pub IsAlike : Elements → Elements → Type 0
IsAlike (kept.Leads one) (kept.Leads other) = Unit {0}
IsAlike (kept.Slots one) (kept.Slots other) = Unit {0}
IsAlike one other = ⊥

-- the addresses that are kept beside the marks of these elements
abbrev pub references_for : Elements → List Found → List ℕ
references_for (kept.Leads leads) fs = references (leads_of fs)
references_for (kept.Slots slots) fs = []

-- how many addresses are kept
abbrev pub address_count : Elements → ℕ
address_count (kept.Leads leads) = length leads.references.items
address_count (kept.Slots slots) = 0

-- ---- the elements of a form

-- what is kept of a form with these elements: of a sub binary the address, which is no element
abbrev pub found_in : ℕ → Option HeapForm → List Placed → List Found
found_in from (Some (SubBin address offset size)) ps = record { lead = lead.Binary address; at = 0; len = 0 } ∷ []
found_in from form ps = map (found_at from) ps

-- the elements of these places
abbrev pub elements_at : List Placed → List Element
elements_at ps = map (λ p. p.element) ps

-- these are the elements of a form that the text spells, before which so many bytes stand
pub record AreIn (from : ℕ) (text : List ℕ) (form : Option HeapForm) (fs : List Found) : Type 0 where
  pub ps : List Placed
  pub stand : All (StandsAt text) ps
  pub elements : elements_at ps ≡ elements_in form
  pub found : fs ≡ found_in from form ps

-- elements were read and appended: the known ones, if they are known
pub record PushesElements (from : ℕ) (text : List ℕ) (old new : Elements) (known : Option (List Element)) : Type 0 where
  pub ps : List Placed
  pub stand : All (StandsAt text) ps
  pub are : IfSome known (λ es. elements_at ps ≡ es)
  pub appended : Appends old new (map (found_at from) ps)

-- elements were appended: those of the form, if there is one
pub record PushesRead (from : ℕ) (text : List ℕ) (old new : Elements) (form : Option HeapForm) : Type 0 where
  pub fs : List Found
  pub are : IfSome form (λ f. AreIn from text (Some f) fs)
  pub appended : Appends old new fs

-- the elements of a form were appended
pub record PushesForm (from : ℕ) (text : List ℕ) (old new : Elements) (form : Option HeapForm) : Type 0 where
  pub fs : List Found
  pub are : AreIn from text form fs
  pub appended : Appends old new fs
