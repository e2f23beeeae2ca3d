-- Where addresses and elements lead.
use Rattle.std.proofs.Common.{◌≡◌, ℕ, ◌<◌, List, length, map, get_or, Option, None, Some, refl, sym, ◌∙◌, ap, subst, arith}
use Rattle.std.specs.Prelude.{All}
use Rattle.std.proofs.Math.ListN.{get_or-map as get_or-map_same}
use Rattle.std.proofs.lemmas.List.{get_or-map, length-map}
use Rattle.term_forms.specs.Elements.{Element, Nil, Ref}
use Rattle.cell_records.specs.declared.cells.Slot.{Slot}
use Rattle.heap_cells.specs.Cells.{Cell}
use Rattle.heap_cells.specs.HeapMap.{number_at}
use Rattle.heap_cells.specs.Laws.Cells.{number_at-within}
use Rattle.heap_cells.specs.Targets.{target, target_at, slot_target, IsWithin}

target_at-within : (cells : List Cell) (address : ℕ) (found : Option ℕ) → number_at cells address ≡ found → IsWithin (length cells) (target_at address found)
target_at-within cells address None is = tt
target_at-within cells address (Some n) is = number_at-within cells address n is

-- a cell that an element leads to is one of those that are there
pub target-within : (cells : List Cell) (e : Element) → IsWithin (length cells) (target cells e)
target-within cells (Ref address) = target_at-within cells address (number_at cells address) refl
target-within cells e = tt

-- and so is one that a slot leads to
pub slots-within : (cells : List Cell) (slots : List Slot) (es : List Element) → map slot_target slots ≡ map (target cells) es
    → All (λ slot. IsWithin (length cells) (slot_target slot)) slots
slots-within cells slots es are k d inside =
    let counts = ap length are in
    let there : k < length es = omega (arith, inside, counts, length-map slots slot_target, length-map es (target cells)) in
    let leads : slot_target (get_or slots k d) ≡ target cells (get_or es k Nil) =
    sym (get_or-map_same slot_target slots k d) ∙ ap (λ l. get_or l k (slot_target d)) are ∙ get_or-map (target cells) es k Nil (slot_target d) there in
    subst (IsWithin (length cells)) (sym leads) (target-within cells (get_or es k Nil))
