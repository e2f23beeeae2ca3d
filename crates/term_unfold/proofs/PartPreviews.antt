-- The answers of a part: what its leaves show of binaries is what the whole heap's leaves show.
use Rattle.std.proofs.Common.{◌≡◌, ◌⊎◌, inl, inr, ℕ, zero, suc, ◌<◌, ◌≤◌, ◌==◌, Bool, true, false, if◌then◌else◌, List, [], ◌∷◌, ◌++◌, length, Option, None, Some, IsSome, is_some, refl, sym, ◌∙◌, ap, ap₂, subst, arith}
use Rattle.std.specs.Option.{option_map, option_and_then, option_or, option_to_list}
use Rattle.std.proofs.lemmas.Bool.{cases_lt, eq-eqb, false≢true, ne_eqb}
use Rattle.std.proofs.lemmas.Option.{none-some, same_Some, slice_get_past}
use Rattle.dump_io.specs.Laws.Options.{or-none}
use Rattle.dump_sections.specs.Index.{Contents}
use Rattle.binary_payloads.specs.declared.enc.Enc.{Enc}
use Rattle.binary_refs.specs.declared.entries.Entry.{Entry}
use Rattle.binary_refs.specs.Previews.{entry, previews_of, preview_entry, by_number, entry_at, own_binary, heap_binary, in_part}
use Rattle.term_forms.specs.Elements.{Element}
use Rattle.term_forms.specs.Forms.{HeapForm, RefBin, SubBin}
use Rattle.heap_cells.specs.Cells.{Cell}
use Rattle.heap_cells.specs.HeapMap.{number_at, form_at}
use Rattle.term_unfold.specs.Maps.{form_at_address}
use Rattle.binary_refs.specs.Ranges.{in_dump}
use Rattle.term_unfold.specs.Leaves.{leaf_text, form_text, preview_of}
use Rattle.term_unfold.specs.Parts.{IsPartOfHeap, has_cell, known_in, gap_at, gap_of, answer_in}
use Rattle.term_unfold.specs.Trees.{Value, Immediate, OfCell, Leaf}
use Rattle.term_unfold.specs.Walks.{judged_text}
use Rattle.term_unfold.proofs.Parts.{Knows, knows, some-form, IsLeafOf, same-verdict, same-show}

-- ---- the entry of a cell, by its number

-- what gives entries gives each the number of its cell
abbrev Numbers : (ℕ → HeapForm → Option Entry) → Type 0
Numbers f = (n : ℕ) (form : HeapForm) (e : Entry) → f n form ≡ Some e → e.cell ≡ n

abbrev one_of : (ℕ → HeapForm → Option Entry) → List Cell → ℕ → Option Entry
one_of f cells n = option_and_then (f n) (form_at cells n)

entry-append : (xs ys : List Entry) (n : ℕ) → entry_at (xs ++ ys) n ≡ option_or (entry_at xs n) (entry_at ys n)
entry-append [] ys n = refl
entry-append (x ∷ xs) ys n =
    elim (x.cell == n) as (λ b. (if b then Some x else entry_at (xs ++ ys) n) ≡ option_or (if b then Some x else entry_at xs n) (entry_at ys n)) [
      | true ↦ refl
      | false ↦ entry-append xs ys n
    ]

one-number : (f : ℕ → HeapForm → Option Entry) (n : ℕ) (o : Option HeapForm) (e : Entry) → Numbers f → option_and_then (f n) o ≡ Some e → e.cell ≡ n
one-number f n None e numbered is = absurd (none-some e is)
one-number f n (Some form) e numbered is = numbered n form e is

entry-one : (o : Option Entry) (n : ℕ) → ((e : Entry) → o ≡ Some e → e.cell ≡ n) → entry_at (option_to_list o) n ≡ o
entry-one None n numbered = refl
entry-one (Some e) n numbered = ap (λ b. if b then Some e else None) (eq-eqb e.cell n (numbered e refl))

entry-other : (o : Option Entry) (n k : ℕ) → ((e : Entry) → o ≡ Some e → e.cell ≡ n) → (n ≡ k → ⊥) → entry_at (option_to_list o) k ≡ None
entry-other None n k numbered other = refl
entry-other (Some e) n k numbered other = ap (λ b. if b then Some e else None) (ne_eqb e.cell k (λ same. other (sym (numbered e refl) ∙ same)))

-- the entry of a number among those of the first n cells
abbrev AreUpto : (ℕ → HeapForm → Option Entry) → List Cell → ℕ → ℕ → Type 0
AreUpto f cells n k = (k < n → entry_at (by_number f cells n) k ≡ one_of f cells k) × (n ≤ k → entry_at (by_number f cells n) k ≡ None)

entries-step : (f : ℕ → HeapForm → Option Entry) (cells : List Cell) (n k : ℕ) → Numbers f → AreUpto f cells n k → AreUpto f cells (suc n) k
entries-step f cells n k numbered so_far = (λ before. below before (cases_lt k n), above)
  where
    of-cell : (e : Entry) → one_of f cells n ≡ Some e → e.cell ≡ n
    of-cell e is = one-number f n (form_at cells n) e numbered is

    parts : entry_at (by_number f cells (suc n)) k ≡ option_or (entry_at (by_number f cells n) k) (entry_at (option_to_list (one_of f cells n)) k)
    parts = entry-append (by_number f cells n) (option_to_list (one_of f cells n)) k

    apart : (n ≡ k → ⊥) → entry_at (by_number f cells (suc n)) k ≡ entry_at (by_number f cells n) k
    apart other =
        parts ∙ ap (option_or (entry_at (by_number f cells n) k)) (entry-other (one_of f cells n) n k of-cell other)
        ∙ or-none (entry_at (by_number f cells n) k)

    below : k < suc n → (k < n) ⊎ (n ≤ k) → entry_at (by_number f cells (suc n)) k ≡ one_of f cells k
    below before (inl earlier) = apart (λ same. omega (arith, same, earlier)) ∙ so_far.0 earlier
    below before (inr later) =
        let here : n ≡ k = omega (arith, before, later) in
        parts ∙ ap (λ o. option_or o (entry_at (option_to_list (one_of f cells n)) k)) (so_far.1 later)
        ∙ subst (λ m. entry_at (option_to_list (one_of f cells n)) m ≡ one_of f cells m) here (entry-one (one_of f cells n) n of-cell)

    above : suc n ≤ k → entry_at (by_number f cells (suc n)) k ≡ None
    above past = apart (λ same. omega (arith, same, past)) ∙ so_far.1 (omega (arith, past))

entries-upto : (f : ℕ → HeapForm → Option Entry) (cells : List Cell) (n k : ℕ) → Numbers f → AreUpto f cells n k
entries-upto f cells zero k numbered = (λ before. absurd (omega (arith, before)), λ past. refl)
entries-upto f cells (suc n) k numbered = entries-step f cells n k numbered (entries-upto f cells n k numbered)

entry-of : (f : ℕ → HeapForm → Option Entry) (cells : List Cell) (n : ℕ) → Numbers f → entry_at (by_number f cells (length cells)) n ≡ one_of f cells n
entry-of f cells n numbered = by (cases_lt n (length cells))
  where
    by : (n < length cells) ⊎ (length cells ≤ n) → entry_at (by_number f cells (length cells)) n ≡ one_of f cells n
    by (inl inside) = (entries-upto f cells (length cells) n numbered).0 inside
    by (inr past) = (entries-upto f cells (length cells) n numbered).1 past ∙ sym (ap (λ o. option_and_then (f n) (option_and_then (λ (c : Cell). c.form) o)) (slice_get_past cells n past))

preview-numbers : (dump : List ℕ) (index : Contents) (enc : Enc) (cells : List Cell) → Numbers (preview_entry dump index enc cells)
preview-numbers dump index enc cells n (RefBin address offset size) e is =
    ap (λ (f : Entry). f.cell) (sym (same_Some (entry n size (in_dump dump index enc address offset size)) e is))
preview-numbers dump index enc cells n (SubBin address offset size) e is =
    ap (λ (f : Entry). f.cell) (sym (same_Some (entry n size (in_part (heap_binary cells address) dump index enc address offset size)) e is))
preview-numbers dump index enc cells n form e is = absurd (none-some e is)

-- ---- what a form shows, whatever the number of its cell

abbrev shown_by : List ℕ → Contents → Enc → List Cell → HeapForm → Option (List ℕ)
shown_by dump index enc cells form = option_and_then (λ e. e.bytes) (preview_entry dump index enc cells 0 form)

shown-number : (dump : List ℕ) (index : Contents) (enc : Enc) (cells : List Cell) (n : ℕ) (form : HeapForm)
    → option_and_then (λ e. e.bytes) (preview_entry dump index enc cells n form) ≡ shown_by dump index enc cells form
shown-number dump index enc cells n (RefBin address offset size) = refl
shown-number dump index enc cells n (SubBin address offset size) = refl
shown-number dump index enc cells n form = refl

preview-form : (dump : List ℕ) (index : Contents) (enc : Enc) (cells : List Cell) (number : Option ℕ) (form : HeapForm) → option_map (form_at cells) number ≡ Some (Some form)
    → option_and_then (preview_of (previews_of dump index enc cells)) number ≡ shown_by dump index enc cells form
preview-form dump index enc cells None form is = absurd (none-some (Some form) is)
preview-form dump index enc cells (Some n) form is =
    ap (option_and_then (λ e. e.bytes)) (entry-of (preview_entry dump index enc cells) cells n (preview-numbers dump index enc cells)
    ∙ ap (option_and_then (preview_entry dump index enc cells n)) (same_Some (form_at cells n) (Some form) is))
    ∙ shown-number dump index enc cells n form

-- ---- what a leaf of the part shows

binary-by : (cells : List Cell) (number : Option ℕ)
    → option_and_then own_binary (option_and_then (form_at cells) number) ≡ option_and_then (option_and_then own_binary) (option_map (form_at cells) number)
binary-by cells None = refl
binary-by cells (Some n) = refl

same-binary : (part whole : List Cell) (a : ℕ) → form_at_address whole a ≡ form_at_address part a → heap_binary part a ≡ heap_binary whole a
same-binary part whole a same =
    binary-by part (number_at part a) ∙ ap (option_and_then (option_and_then own_binary)) (sym same) ∙ sym (binary-by whole (number_at whole a))

-- where the part lacks a cell and no gap is found, the whole has no heap binary
lacks-none : (here there : Bool) (binary : Option (ℕ × List ℕ)) (a : ℕ) → (if here then false else there) ≡ true → (if (if here then false else is_some binary) then Some a else None) ≡ None → binary ≡ None
lacks-none true there binary a lack clear = absurd (false≢true lack)
lacks-none false there None a lack clear = refl
lacks-none false there (Some binary) a lack clear = absurd (none-some a (sym clear))

no-binary : (part : List Cell) (a : ℕ) → form_at_address part a ≡ None → heap_binary part a ≡ None
no-binary part a lacks = binary-by part (number_at part a) ∙ ap (option_and_then (option_and_then own_binary)) lacks

same-shown : (dump : List ℕ) (index : Contents) (enc : Enc) (part whole : List Cell) (a : ℕ) (form : HeapForm) → IsPartOfHeap part whole
    → gap_at (known_in whole) part (Leaf (OfCell a form)) ≡ None → shown_by dump index enc part form ≡ shown_by dump index enc whole form
same-shown dump index enc part whole a (SubBin address offset size) is clear = by (knows part whole address is)
  where
    by : Knows part whole address → shown_by dump index enc part (SubBin address offset size) ≡ shown_by dump index enc whole (SubBin address offset size)
    by (inl same) = ap (λ binary. in_part binary dump index enc address offset size) (same-binary part whole address same)
    by (inr lack) =
        ap (λ binary. in_part binary dump index enc address offset size)
        (no-binary part address lack.0 ∙ sym (lacks-none (has_cell part address) (has_cell whole address) (heap_binary whole address) address lack.1 clear))
same-shown dump index enc part whole a form is clear = refl

leaves-agree : (dump : List ℕ) (index : Contents) (enc : Enc) (part whole : List Cell) → IsPartOfHeap part whole
    → (v : Value) → IsLeafOf part v → gap_at (known_in whole) part (Leaf v) ≡ None → leaf_text enc part (previews_of dump index enc part) v ≡ leaf_text enc whole (previews_of dump index enc whole) v
leaves-agree dump index enc part whole is (Immediate e) of clear = refl
leaves-agree dump index enc part whole is (OfCell a form) of clear =
    let some : IsSome (number_at part a) = sym (some-form part (number_at part a)) ∙ ap is_some of in
    let of' : form_at_address whole a ≡ Some (Some form) = sym (is.forms a some) ∙ of in
    ap (λ preview. form_text enc preview form)
    (preview-form dump index enc part (number_at part a) form of ∙ same-shown dump index enc part whole a form is clear ∙ sym (preview-form dump index enc whole (number_at whole a) form of'))

-- ---- the answer

pub enough : (part whole : List Cell) → IsPartOfHeap part whole → (dump : List ℕ) (index : Contents) (enc : Enc) (root : Element) (n : ℕ) (marked : Bool)
    → gap_of (known_in whole) part root n ≡ None → answer_in dump index enc part root n marked ≡ answer_in dump index enc whole root n marked
enough part whole is dump index enc root n true clear =
    same-show part whole (leaf_text enc part (previews_of dump index enc part)) (leaf_text enc whole (previews_of dump index enc whole)) root n is
    (leaves-agree dump index enc part whole is) clear
enough part whole is dump index enc root n false clear =
    let agree = leaves-agree dump index enc part whole is in
    let leaf = leaf_text enc part (previews_of dump index enc part) in
    let leaf' = leaf_text enc whole (previews_of dump index enc whole) in
    ap₂ judged_text (same-verdict part whole leaf leaf' root n is agree clear) (same-show part whole leaf leaf' root n is agree clear)
