-- The texts of a made dump: 5 headers a process, and 428 bytes of it at most.
use Rattle.std.proofs.Common.{◌≡◌, ℕ, ◌+◌, ◌*◌, ◌^◌, ◌<◌, ◌≤◌, ◌==◌, true, false, List, [], ◌∷◌, ◌++◌, replicate, if◌then◌else◌, refl, arith}
use Rattle.std.specs.Prelude.{codes, decimal}
use Rattle.std.specs.List.{concat}
use Rattle.dump_io.specs.Numbers.{hexadecimal}
use Rattle.dump_write.specs.Made.{queue_of, next_of, previous_of, heap_of, link_list, proc_section, stack_section, dictionary_section, messages_section, second_cell, cells, made_heap, made_process, first_sections, last_sections, made_texts}
use Rattle.line_source.specs.Streams.{begins_with_equals}
use Rattle.dump_write.proofs.Numerals.{hexadecimal_is_plain, plain_is_no_header}
use Rattle.dump_write.proofs.TextLists.{IsPart, none, literal, before, within, decimal_part, hexadecimal_part, AreTexts, no_texts, head, body, texts_then, texts_within, texts_with_heads, copies, texts_for}

-- the number of a process, and of its neighbours
process_number : (i : ℕ) → i ≤ 200000 → IsPart (decimal i) 6
process_number i few = decimal_part 6 i (omega arith) (omega (arith, few)) (omega (arith, few))

queue_number : (queue : ℕ) → queue < 10 → IsPart (decimal queue) 1
queue_number queue few = decimal_part 1 queue (omega arith) (omega (arith, few)) (omega (arith, few))

-- an address in the heap of a process
address_number : (address : ℕ) → address < 16 ^ 8 → IsPart (hexadecimal address) 8
address_number address few = hexadecimal_part 8 address (omega arith) few (omega (arith, few))

-- a line that is no header, of so many bytes at most
abbrev IsBody : List ℕ → ℕ → Type 0
IsBody text most = IsPart text most × (begins_with_equals text ≡ false)

link_list_body : (queue next previous : ℕ) → next ≤ 200000 → previous ≤ 200000 → IsBody (link_list queue next previous) 39
link_list_body queue next previous n p =
    elim (queue == 0) as (λ b. IsBody (if b then concat (codes "Link list: [<0." ∷ decimal next ∷ codes ".0>]" ∷ []) else concat (codes "Link list: [<0." ∷ decimal next ∷ codes ".0>, <0." ∷ decimal previous ∷ codes ".0>]" ∷ [])) 39) [
      | true ↦ (within (omega arith) (before (literal (codes "Link list: [<0.") refl) (before (process_number next n) (before (literal (codes ".0>]") refl) none))), refl)
      | false ↦ (within (omega arith) (before (literal (codes "Link list: [<0.") refl) (before (process_number next n) (before (literal (codes ".0>, <0.") refl) (before (process_number previous p) (before (literal (codes ".0>]") refl) none))))), refl)
    ]

proc_texts : (i queue next previous : ℕ) → i ≤ 200000 → queue < 10 → next ≤ 200000 → previous ≤ 200000 → AreTexts (proc_section i queue next previous) 1 125
proc_texts i queue next previous few q n p =
    let link = link_list_body queue next previous n p in
    head (before (literal (codes "=proc:<0.") refl) (before (process_number i few) (before (literal (codes ".0>") refl) none))) refl refl
    (body (literal (codes "State: Waiting") refl) refl refl
    (body (before (literal (codes "Name: p") refl) (before (process_number i few) none)) refl refl
    (body (before (literal (codes "Message queue length: ") refl) (before (queue_number queue q) none)) refl refl
    (body link.0 refl link.1
    (body (literal (codes "Memory: 2000") refl) refl refl no_texts)))))

stack_texts : (i : ℕ) → i ≤ 200000 → AreTexts (stack_section i) 1 38
stack_texts i few =
    head (before (literal (codes "=proc_stack:<0.") refl) (before (process_number i few) (before (literal (codes ".0>") refl) none))) refl refl
    (body (before (literal (codes "y0:H") refl) (before (address_number (heap_of i) (omega (arith, few))) none)) refl refl no_texts)

dictionary_texts : (i : ℕ) → i ≤ 200000 → AreTexts (dictionary_section i) 1 40
dictionary_texts i few =
    head (before (literal (codes "=proc_dictionary:<0.") refl) (before (process_number i few) (before (literal (codes ".0>") refl) none))) refl refl
    (body (before (literal (codes "H") refl) (before (address_number (heap_of i + 32) (omega (arith, few))) none)) refl refl no_texts)

messages_texts : (i queue : ℕ) → i ≤ 200000 → queue < 10 → AreTexts (messages_section i queue) 1 73
messages_texts i queue few q =
    let messages : AreTexts (replicate queue (codes "I1:N")) 0 45 = texts_within (omega (arith, q)) (copies queue (literal (codes "I1:N") refl) refl refl) in
    head (before (literal (codes "=proc_messages:<0.") refl) (before (process_number i few) (before (literal (codes ".0>") refl) none))) refl refl messages

-- a line that begins with an address is no header
address_begins : (address : ℕ) (more : List ℕ) → address < 16 ^ 8 → begins_with_equals (hexadecimal address ++ more) ≡ false
address_begins address more few = plain_is_no_header (hexadecimal address) more (hexadecimal_is_plain address (omega (arith, few)))

second_cell_body : (queue heap : ℕ) → heap + 64 < 16 ^ 8 → IsBody (second_cell queue heap) 29
second_cell_body queue heap few =
    let second = address_number (heap + 16) (omega (arith, few)) in
    let third = address_number (heap + 32) (omega (arith, few)) in
    let begins = λ (more : List ℕ). address_begins (heap + 16) more (omega (arith, few)) in
    elim (queue == 5) as (λ b. IsBody (if b then concat (hexadecimal (heap + 16) ∷ codes ":lH" ∷ hexadecimal (heap + 32) ∷ codes "|H" ∷ hexadecimal heap ∷ [])
    else concat (hexadecimal (heap + 16) ∷ codes ":lH" ∷ hexadecimal (heap + 32) ∷ codes "|N" ∷ [])) 29) [
      | true ↦ (before second (before (literal (codes ":lH") refl) (before third (before (literal (codes "|H") refl) (before (address_number heap (omega (arith, few))) none)))), begins _)
      | false ↦ (within (omega arith) (before second (before (literal (codes ":lH") refl) (before third (before (literal (codes "|N") refl) none)))), begins _)
    ]

cells_texts : (i queue heap : ℕ) → i ≤ 200000 → queue < 10 → heap + 64 < 16 ^ 8 → AreTexts (cells i queue heap) 0 128
cells_texts i queue heap few q low =
    let first = address_number heap (omega (arith, low)) in
    let second = address_number (heap + 16) (omega (arith, low)) in
    let tuple = address_number (heap + 32) (omega (arith, low)) in
    let map = address_number (heap + 48) (omega (arith, low)) in
    let binary = address_number (heap + 64) (omega (arith, low)) in
    let next = second_cell_body queue heap low in
    body (before first (before (literal (codes ":lI") refl) (before (queue_number queue q) (before (literal (codes "|H") refl) (before second none))))) refl
    (address_begins heap (concat (codes ":lI" ∷ decimal queue ∷ codes "|H" ∷ hexadecimal (heap + 16) ∷ [])) (omega (arith, low)))
    (body next.0 refl next.1
    (body (before tuple (before (literal (codes ":t2:H") refl) (before map (before (literal (codes ",H") refl) (before binary none))))) refl
    (address_begins (heap + 32) (concat (codes ":t2:H" ∷ hexadecimal (heap + 48) ∷ codes ",H" ∷ hexadecimal (heap + 64) ∷ [])) (omega (arith, low)))
    (body (before map (before (literal (codes ":Mf1:H10:I") refl) (before (process_number i few) none))) refl
    (address_begins (heap + 48) (concat (codes ":Mf1:H10:I" ∷ decimal i ∷ [])) (omega (arith, low)))
    (body (before binary (before (literal (codes ":Yc20:1:3") refl) none)) refl
    (address_begins (heap + 64) (concat (codes ":Yc20:1:3" ∷ [])) (omega (arith, low))) no_texts))))

heap_texts : (i queue : ℕ) → i ≤ 200000 → queue < 10 → AreTexts (made_heap i queue) 1 152
heap_texts i queue few q =
    head (before (literal (codes "=proc_heap:<0.") refl) (before (process_number i few) (before (literal (codes ".0>") refl) none))) refl refl
    (cells_texts i queue (heap_of i) few q (omega (arith, few)))

process_texts : (seed count i : ℕ) → 1 ≤ i → i ≤ count → count ≤ 200000 → AreTexts (made_process seed count i) 5 428
process_texts seed count i first last few =
    let low : i ≤ 200000 = omega (arith, last, few) in
    let queue = queue_of seed i in
    let q : queue_of seed i < 10 = omega arith in
    let next : next_of count i ≤ 200000 = omega (arith, first, last, few) in
    let previous : previous_of count i ≤ 200000 = omega (arith, first, last, few) in
    texts_then (proc_texts i queue (next_of count i) (previous_of count i) low q next previous)
    (texts_then (stack_texts i low) (texts_then (dictionary_texts i low) (texts_then (messages_texts i queue low q) (heap_texts i queue low q))))

first_texts : (seed count : ℕ) → seed < 2 ^ 64 → count ≤ 200000 → AreTexts (first_sections seed count) 2 86
first_texts seed count small few =
    head (literal (codes "=erl_crash_dump:0.5") refl) refl refl
    (body (before (literal (codes "Slogan: made ") refl) (before (decimal_part 20 seed (omega arith) (omega (arith, small)) small) (before (literal (codes " ") refl) (before (process_number count few) none)))) refl refl
    (head (literal (codes "=memory") refl) refl refl
    (body (before (literal (codes "total: ") refl) (before (decimal_part 9 (1000 * count) (omega arith) (omega (arith, few)) (omega (arith, few))) none)) refl refl no_texts)))

last_texts : AreTexts last_sections 3 50
last_texts =
    head (literal (codes "=literals") refl) refl refl
    (body (literal (codes "10:t1:A3:key") refl) refl refl
    (head (literal (codes "=binary:20") refl) refl refl
    (body (literal (codes "5:aGVsbG8=") refl) refl refl
    (head (literal (codes "=end") refl) refl refl no_texts))))

pub made_are_texts : (seed count : ℕ) → seed < 2 ^ 64 → 1 ≤ count → count ≤ 200000 → AreTexts (made_texts seed count) (5 * count + 5) 85600136
made_are_texts seed count small some few =
    texts_with_heads (omega arith)
    (texts_within (omega (arith, few))
    (texts_then (first_texts seed count small few)
    (texts_then (texts_for (made_process seed count) 5 428 1 count (λ i first last. process_texts seed count i first (omega (arith, last)) few)) last_texts)))
