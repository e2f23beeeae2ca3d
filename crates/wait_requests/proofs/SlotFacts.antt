-- What is heard of the slots of a stack.
use Rattle.std.proofs.Common.{◌≡◌, ℕ, List, [], ◌∷◌, ◌++◌, map, Option, None, Some, refl, sym, ◌∙◌, ap, ap₂, append_assoc}
use Rattle.std.specs.List.{cons_option}
use Rattle.std.proofs.lemmas.List.{map-append}
use Rattle.body_lines.specs.Hearing.{Hears}
use Rattle.root_views.specs.Roots.{BodyRoot}
use Rattle.wait_requests.specs.Held.{awaited_behind, slot_in, slots_before}
use Rattle.wait_requests.specs.Inner.Hearing.{awaited_after, keyed, TakesSlots}
use Rattle.wait_requests.specs.declared.slot_sink.SlotSink.{SlotSink}

after-append : (n : ℕ) (xs ys : List BodyRoot) → awaited_after n (xs ++ ys) ≡ awaited_after (awaited_after n xs) ys
after-append n [] ys = refl
after-append n (x ∷ xs) ys = after-append (awaited_behind n x.content) xs ys

cons-append : (o : Option ℕ) (xs ys : List ℕ) → cons_option o (xs ++ ys) ≡ cons_option o xs ++ ys
cons-append None xs ys = refl
cons-append (Some n) xs ys = refl

slots-append : (n : ℕ) (xs ys : List BodyRoot) → slots_before n (xs ++ ys) ≡ slots_before n xs ++ slots_before (awaited_after n xs) ys
slots-append n [] ys = refl
slots-append n (x ∷ xs) ys =
    ap (cons_option (slot_in n x.content)) (slots-append (awaited_behind n x.content) xs ys)
    ∙ cons-append (slot_in n x.content) (slots_before (awaited_behind n x.content) xs) _

-- one more root
pub slots-heard : (old new : SlotSink) (root : BodyRoot) → new.awaited ≡ awaited_behind old.awaited root.content
    → new.slots.items ≡ old.slots.items ++ map keyed (cons_option (slot_in old.awaited root.content) []) → Hears TakesSlots old new (root ∷ [])
slots-heard old new root awaited slots = record {
  later = λ first earlier had. record {
    awaited = awaited ∙ ap (λ n. awaited_behind n root.content) had.awaited ∙ sym (after-append first.awaited earlier (root ∷ []));
    slots =
        slots ∙ ap₂ (λ l n. l ++ map keyed (cons_option (slot_in n root.content) [])) had.slots had.awaited
        ∙ append_assoc first.slots.items (map keyed (slots_before first.awaited earlier)) _
        ∙ ap (λ l. first.slots.items ++ l)
        (sym (map-append keyed (slots_before first.awaited earlier) _) ∙ ap (map keyed) (sym (slots-append first.awaited earlier (root ∷ []))));
  };
}
