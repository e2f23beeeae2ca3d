-- What a process holds, from what is heard of its stack and its heap.
use Rattle.std.proofs.Common.{◌≡◌, ◌⊎◌, ℕ, ◌+◌, ◌<◌, ◌==◌, true, false, cond, List, [], ◌∷◌, ◌++◌, length, map, Option, None, Some, refl, sym, ◌∙◌, ap, ap₂, append-nil, arith}
use Rattle.std.specs.Prelude.{Result, Ok, Err, IfOk, find, is_some, ◌||◌}
use Rattle.std.specs.List.{cons_option, filter_map, list_any}
use Rattle.std.specs.Option.{option_and_then, option_map}
use Rattle.std.specs.Ordering.{is_eq, nat_cmp}
use Rattle.std.proofs.lemmas.Bool.{cases_order}
use Rattle.std.proofs.lemmas.Bool.Decides.{nat_tests}
use Rattle.body_lines.specs.Hearing.{Hears}
use Rattle.body_lines.specs.Lines.{CutLine, cut, cut_lines}
use Rattle.binary_payloads.specs.declared.enc.Enc.{Enc}
use Rattle.dump_io.specs.Lines.{lines_from, raw_lines, text_of}
use Rattle.dump_sections.specs.Places.{place_by}
use Rattle.field_lines.specs.Lines.{text_line}
use Rattle.heap_cells.specs.Cells.{Cell, cell_of, line_cells, spelled_cell}
use Rattle.link_graph.specs.Requests.{Request}
use Rattle.root_views.specs.Placed.{placed, placed_roots}
use Rattle.root_views.specs.Roots.{BodyRoot, stack_roots}
use Rattle.root_views.specs.declared.kinds.RootKind.TheVariants.{Stack}
use Rattle.term_forms.specs.ReadingForms.{form_of}
use Rattle.term_forms.specs.Words.{led_of}
use Rattle.wait_requests.specs.Held.{awaited_behind, first_slots, held, slot_in, slots_before, words_held, words_of}
use Rattle.wait_requests.specs.Inner.Asking.{before_held}
use Rattle.wait_requests.specs.Inner.Hearing.{before_among, is_slot, keyed, led_words, words_among, AreSlots, TakesLines, TakesSlots}
use Rattle.wait_requests.specs.declared.heap_sink.HeapSink.{HeapSink}
use Rattle.wait_requests.specs.declared.slot_sink.SlotSink.{SlotSink}
use Rattle.wait_requests.proofs.ExternalFacts.{AreForms}
use Rattle.wait_requests.proofs.HeapFacts.{held-all, keeps-same}
use Rattle.wait_requests.proofs.LongFacts.{cut-same, AreLed, AreSized}
use Rattle.wait_requests.proofs.PayloadFacts.{ArePayloads}
use Rattle.wait_requests.proofs.PlaceFacts.{held-none}

-- ---- slots

same : (k n : ℕ) → is_eq (nat_cmp k n) ≡ (k == n)
same k n = by (cases_order k n)
  where
    by : (k ≡ n) ⊎ ((k < n) ⊎ (n < k)) → is_eq (nat_cmp k n) ≡ (k == n)
    by o = grind (arith, nat_tests)

keyed-among : (address : ℕ) (addresses : List ℕ) → is_slot (map keyed addresses) address ≡ list_any (λ a. a == address) addresses
keyed-among address [] = refl
keyed-among address (a ∷ addresses) =
    ap (λ b. is_some (option_map (λ (p : ℕ × ℕ). p.1) (cond b (Some (keyed a)) (find (λ (p : ℕ × ℕ). is_eq (nat_cmp p.0 address)) (map keyed addresses))))) (same a address)
    ∙ elim (a == address) as (λ b. is_some (option_map (λ (p : ℕ × ℕ). p.1) (cond b (Some (keyed a)) (find (λ (p : ℕ × ℕ). is_eq (nat_cmp p.0 address)) (map keyed addresses))))
    ≡ (b || list_any (λ x. x == address) addresses)) [
      | true ↦ refl
      | false ↦ keyed-among address addresses
    ]

pub slots-sorted : (sorted pairs : List (ℕ × ℕ)) (addresses : List ℕ) → ((key : ℕ) → place_by nat_cmp key sorted ≡ place_by nat_cmp key pairs) → pairs ≡ map keyed addresses → AreSlots addresses sorted
slots-sorted sorted pairs addresses by are = record {
  each = λ address. ap is_some (by address) ∙ ap (λ l. is_slot l address) are ∙ keyed-among address addresses;
}

slots-placed : (n at : ℕ) (roots : List BodyRoot) → slots_before n (map (placed at) roots) ≡ slots_before n roots
slots-placed n at [] = refl
slots-placed n at (root ∷ roots) = ap (cons_option (slot_in n root.content)) (slots-placed (awaited_behind n root.content) at roots)

pub slots-found : (old new : SlotSink) (from at : ℕ) (roots : List BodyRoot) (bytes stack : List ℕ) → Hears TakesSlots old new roots → old.awaited ≡ 2 → old.slots.items ≡ [] → roots ≡ placed_roots Stack at bytes → bytes ≡ stack
    → new.slots.items ≡ map keyed (first_slots stack)
slots-found old new from at roots bytes stack heard two none are is =
    (heard.later old [] (record { awaited = refl; slots = sym (append-nil old.slots.items) })).slots
    ∙ ap₂ (λ l n. l ++ map keyed (slots_before n roots)) none two
    ∙ ap (λ rs. map keyed (slots_before 2 rs)) are ∙ ap (map keyed) (slots-placed 2 at (stack_roots bytes)) ∙ ap (λ l. map keyed (first_slots l)) is

-- what is said of a result is said of it in other words
pub if-ok : {T E : Type 0} (P Q : T → Type 0) → ((t : T) → P t → Q t) → (r : Result T E) → IfOk r P → IfOk r Q
if-ok P Q says (Ok t) is = says t is
if-ok P Q says (Err e) is = is

-- ---- references

module _ (enc : Enc) (forms : AreForms enc) (leds : AreLed) (payloads : ArePayloads enc) (sizes : AreSized enc) (addresses : List ℕ) (slots : List (ℕ × ℕ)) (are : AreSlots addresses slots) where
  one-line : (led : Option (ℕ × List ℕ)) (rest : List (List ℕ)) (cells : List Cell) → rest ≡ filter_map (words_held enc addresses) cells
      → cons_option (option_and_then (led_words enc slots) led) rest ≡ filter_map (words_held enc addresses) (cons_option (option_map (spelled_cell enc) led) cells)
  one-line None rest cells is = is
  one-line (Some led) rest cells is = ap₂ (λ b l. cons_option (cond b (words_of enc (form_of enc led.1)) None) l) (are.each led.0) is

  raws-heard : (at place : ℕ) (raws : List (List ℕ)) → words_among enc slots (map (cut 4134) (lines_from at raws)) ≡ filter_map (words_held enc addresses) (filter_map (cell_of enc) (map text_line (lines_from place raws)))
  raws-heard at place [] = refl
  raws-heard at place (raw ∷ raws) =
      ap (λ o. cons_option o (words_among enc slots (map (cut 4134) (lines_from (at + length raw) raws)))) (cut-same enc forms leds payloads sizes slots raw)
      ∙ one-line (led_of (text_of raw)) (words_among enc slots (map (cut 4134) (lines_from (at + length raw) raws))) (filter_map (cell_of enc) (map text_line (lines_from (place + length raw) raws)))
      (raws-heard (at + length raw) (place + length raw) raws)

  body-heard : (at : ℕ) (body : List ℕ) → words_among enc slots (cut_lines 4134 at body) ≡ filter_map (words_held enc addresses) (line_cells enc body)
  body-heard at body = raws-heard at 0 (raw_lines body)

pub first-found : (old new : HeapSink) (at : ℕ) (lines : List CutLine) (bytes heap stack : List ℕ) (enc : Enc) (requests : List Request)
    → AreForms enc → AreLed → ArePayloads enc → AreSized enc → Hears TakesLines old new lines
    → old.enc ≡ enc → old.asked.now ≡ requests → old.first ≡ length requests → AreSlots (first_slots stack) old.slots.now → lines ≡ cut_lines 4134 at bytes → bytes ≡ heap
    → new.first ≡ before_held requests (held enc stack heap)
first-found old new at lines bytes heap stack enc requests forms leds payloads sizes heard enc_is asked none slots are is =
    (heard.later old [] (record { keeps = keeps-same old; first = refl })).first
    ∙ ap₂ (λ rs e. before_among rs old.first (words_among e old.slots.now lines)) asked enc_is
    ∙ ap (λ ls. before_among requests old.first (words_among enc old.slots.now ls)) are
    ∙ ap (before_among requests old.first) (body-heard enc forms leds payloads sizes (first_slots stack) old.slots.now slots at bytes)
    ∙ ap (λ l. before_among requests old.first (held enc stack l)) is
    ∙ held-all requests [] (held enc stack heap) old.first (none ∙ sym (held-none requests))
