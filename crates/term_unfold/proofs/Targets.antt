-- What an element is, by where it leads.
use Rattle.std.proofs.Common.{◌≡◌, ℕ, List, map, Option, None, Some, eqb, get_or, refl, sym, ◌∙◌, ap}
use Rattle.std.specs.Option.{option_map, unwrap_or}
use Rattle.std.proofs.lemmas.Bool.{eqb-true}
use Rattle.std.proofs.lemmas.List.Quantifiers.{position-Some}
use Rattle.std.proofs.Math.ListN.{get_or-map}
use Rattle.std.proofs.lemmas.Option.{slice_get-get_or}
use Rattle.term_forms.specs.Elements.{Element, Nil, Small, Atom, Pid, Port, Ref}
use Rattle.heap_cells.specs.Cells.{Cell}
use Rattle.heap_cells.specs.HeapMap.{number_at, address_at, form_at}
use Rattle.cell_records.specs.declared.cells.Slot.{Slot}
use Rattle.cell_records.specs.declared.cells.Slot.TheVariants as slot
use Rattle.heap_cells.specs.Targets.{Imm, At, Gone, target_at, target, slot_target}
use Rattle.term_unfold.specs.Maps.{address_of, form_at_address}

-- a reference to the cell with a number
pub record IsRefTo (heap : List Cell) (n : ℕ) (e : Element) : Type 0 where
  pub element : e ≡ Ref (address_of heap n)
  pub found : number_at heap (address_of heap n) ≡ Some n
  pub form : form_at_address heap (address_of heap n) ≡ Some (form_at heap n)

abbrev no_cell : Cell
no_cell = record { address = 0; form = None }

pub address-is : (heap : List Cell) (n a : ℕ) → Some a ≡ address_at heap n → address_of heap n ≡ a
address-is heap n a is = ap (λ o. unwrap_or o 0) (sym is)

-- the cell at the first place of an address has that address
pub found-address : (heap : List Cell) (a n : ℕ) → number_at heap a ≡ Some n → address_of heap n ≡ a
found-address heap a n is =
    let at = position-Some (λ (c : Cell). eqb c.address a) heap n no_cell is in
    ap (λ o. unwrap_or (option_map (λ (c : Cell). c.address) o) 0) (slice_get-get_or heap n no_cell at.0) ∙ eqb-true (get_or heap n no_cell).address a at.1

at-found : (a n : ℕ) (found : Option ℕ) → target_at a found ≡ At n → found ≡ Some n
at-found a n None h = cc
at-found a n (Some m) h = cc

missing-found : (a b : ℕ) (found : Option ℕ) → target_at a found ≡ Gone b → (a ≡ b) × (found ≡ None)
missing-found a b None h =
    let same : a ≡ b = cc in
    (same, refl)
missing-found a b (Some m) h = cc

plain-found : {X : Type 0} (a : ℕ) (found : Option ℕ) → target_at a found ≡ Imm → X
plain-found a None h = cc
plain-found a (Some m) h = cc

-- an element that leads to a cell
pub leads-at : (heap : List Cell) (n : ℕ) (e : Element) → target heap e ≡ At n → IsRefTo heap n e
leads-at heap n (Ref a) h =
    let found : number_at heap a ≡ Some n = at-found a n (number_at heap a) h in
    let same : address_of heap n ≡ a = found-address heap a n found in
    record {
      element = ap Ref (sym same);
      found = ap (number_at heap) same ∙ found;
      form = ap (form_at_address heap) same ∙ ap (option_map (form_at heap)) found;
    }
leads-at heap n e h = cc

-- an element that leads to an address that no cell has
pub leads-missing : (heap : List Cell) (b : ℕ) (e : Element) → target heap e ≡ Gone b → (e ≡ Ref b) × (form_at_address heap b ≡ None)
leads-missing heap b (Ref a) h =
    let found = missing-found a b (number_at heap a) h in
    (ap Ref found.0, ap (form_at_address heap) (sym found.0) ∙ ap (option_map (form_at heap)) found.1)
leads-missing heap b e h = cc

-- an element that leads nowhere is an immediate
pub leads-nowhere : (P : Element → Type 0) (heap : List Cell) (e : Element) → target heap e ≡ Imm → P Nil → ((integer : List ℕ) → P (Small integer)) → ((bytes : List ℕ) → P (Atom bytes))
    → ((pid : List ℕ) → P (Pid pid)) → ((port : List ℕ) → P (Port port)) → P e
leads-nowhere P heap Nil h nil small atom pid port = nil
leads-nowhere P heap (Small integer) h nil small atom pid port = small integer
leads-nowhere P heap (Atom bytes) h nil small atom pid port = atom bytes
leads-nowhere P heap (Pid p) h nil small atom pid port = pid p
leads-nowhere P heap (Port p) h nil small atom pid port = port p
leads-nowhere P heap (Ref a) h nil small atom pid port = plain-found a (number_at heap a) h

-- what is read of a slot past the last one
abbrev pub no_slot : Slot
no_slot = slot.Imm (record { at = 0; len = 0 })

-- a slot leads where its element leads
pub slot-leads : (heap : List Cell) (slots : List Slot) (elements : List Element) (n : ℕ) (s : Slot) → map slot_target slots ≡ map (target heap) elements → get_or slots n no_slot ≡ s
    → target heap (get_or elements n Nil) ≡ slot_target s
slot-leads heap slots elements n s same is =
    sym (get_or-map (target heap) elements n Nil) ∙ ap (λ l. get_or l n Imm) (sym same) ∙ get_or-map slot_target slots n no_slot ∙ ap slot_target is
