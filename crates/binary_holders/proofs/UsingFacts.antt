-- The use of the binaries of a dump, from what was found and counted.
use Rattle.std.proofs.Common.{◌≡◌, ℕ, ◌||◌, filter, ◌+◌, ◌*◌, ◌<◌, ◌≤◌, Bool, true, false, cond, List, [], ◌∷◌, ◌++◌, length, map, get_or, Option, None, Some, Result, Ok, Err, if◌then◌else◌, refl, sym, ◌∙◌, ap, arith, codes}
use Rattle.std.specs.Prelude.{IfOk, nat_lt, slice_index, sum}
use Rattle.std.specs.List.{cons_option, count_by, enumerate_from, filter_map, flat_map, sum_by}
use Rattle.std.specs.Option.{option_map, option_and_then}
use Rattle.std.proofs.lemmas.Bool.{ltb-false}
use Rattle.std.proofs.lemmas.Simd.{map-map}
use Rattle.std.proofs.lemmas.List.{get_or-map, length-map, same_lists}
use Rattle.std.proofs.lemmas.List.Sums.{sum-map, sum_by-cons, sum_by_push}
use Rattle.dump_io.specs.Numbers.{hex_number}
use Rattle.dump_sections.specs.Bodies.{body_in, body_size, section_in}
use Rattle.dump_sections.specs.FindingLaws.{section-found}
use Rattle.dump_sections.specs.Index.{Contents, sections_in}
use Rattle.dump_sections.specs.Lookups.{has_tag, is_named}
use Rattle.dump_sections.specs.Sections.{Section, id_of}
use Rattle.heap_cells.specs.Loading.{enc_of, heap_section}
use Rattle.process_table.specs.Numbers.{binary_bytes}
use Rattle.process_table.specs.Processes.{Process}
use Rattle.binary_holders.specs.declared.rows.BinaryRow.{BinaryRow}
use Rattle.binary_holders.specs.declared.rows.Holding.{Holding}
use Rattle.binary_holders.specs.declared.targets.Binary.{Binary}
use Rattle.binary_holders.specs.declared.stored.StoredAt.{StoredAt}
use Rattle.binary_holders.specs.declared.counts.Counts.{Counts}
use Rattle.binary_holders.specs.Held.{BinaryHeap, has_binaries, holders_of, holding_of}
use Rattle.binary_holders.specs.declared.rows.WholeLines.{WholeLines}
use Rattle.binary_holders.specs.HeapReferences.{numbers_referred, references, references_of}
use Rattle.binary_holders.specs.StoredBinaries.{Stored, stored_binary, firsts, is_among, stored_at}
use Rattle.binary_holders.specs.Usage.{Usage, binaries_in, binary_heap, held_of, fronts_length, heaps_length, heaps_of, lines_of, binary_row, rows_in, sized_binary, stored_in}
use Rattle.binary_holders.specs.Inner.Finding.{numbers_of, stored_of}
use Rattle.binary_holders.specs.Inner.Places.{binaries_at, heap_place, numbers_at, numbers_in, references_at, size_at}
use Rattle.binary_holders.specs.Inner.Rows.{AreRows, row_at}
use Rattle.binary_holders.specs.Inner.Counting.{HasCounted, number_at}
use Rattle.binary_holders.proofs.CountFacts.{at-number, no_binary}

-- two facts of one answer
pub both-ok : {T E : Type 0} (r : Result T E) (P Q : T → Type 0) → IfOk r P → IfOk r Q → IfOk r (λ x. P x × Q x)
both-ok (Ok x) P Q p q = (p, q)
both-ok (Err e) P Q p q = tt

-- a use by its six parts
abbrev pub usage : List Holding → List BinaryRow → ℕ → ℕ → WholeLines → ℕ → Usage
usage held binaries bytes with_holders lines counted =
    record { held = held; binaries = binaries; bytes = bytes; with_holders = with_holders; lines = lines; counted = counted }

pub usage-same : {h k : List Holding} {b c : List BinaryRow} {m n v w x y : ℕ} {l r : WholeLines} → h ≡ k → b ≡ c → m ≡ n → v ≡ w → l ≡ r → x ≡ y
    → usage h b m v l x ≡ usage k c n w r y
usage-same held binaries bytes with_holders lines counted = λ i. usage (held i) (binaries i) (bytes i) (with_holders i) (lines i) (counted i)

-- what is said of the heaps, by their places and by the pids
by-pid : {X : Type 0} (f : Option Section → X) (index : Contents) (processes : List Process) (heaps : List (Option ℕ)) → heaps ≡ map (λ (p : Process). heap_place (sections_in index) p.pid) processes
    → map (λ place. f (section_in index place)) heaps ≡ map (λ pid. f (heap_section pid (sections_in index))) (map (λ (p : Process). p.pid) processes)
by-pid f index processes heaps is = ap (map (λ place. f (section_in index place))) is ∙ each processes
  where
    each : (ps : List Process) → map (λ place. f (section_in index place)) (map (λ (p : Process). heap_place (sections_in index) p.pid) ps)
        ≡ map (λ pid. f (heap_section pid (sections_in index))) (map (λ (p : Process). p.pid) ps)
    each [] = refl
    each (p ∷ ps) =
        ap (λ o. f o ∷ map (λ place. f (section_in index place)) (map (λ (p : Process). heap_place (sections_in index) p.pid) ps))
        (section-found (λ (s : Section). is_named (codes "proc_heap") (Some p.pid) s.text) index _ refl)
        ∙ ap (λ l. f (heap_section p.pid (sections_in index)) ∷ l) (each ps)

-- what they refer to
pub heaps-are : (dump : List ℕ) (index : Contents) (processes : List Process) (heaps : List (Option ℕ)) → heaps ≡ map (λ (p : Process). heap_place (sections_in index) p.pid) processes
    → map (numbers_at dump index) heaps ≡ heaps_of dump index (map (λ (p : Process). p.pid) processes)
heaps-are dump index = by-pid (λ heap. numbers_referred (references (enc_of index.version) (body_in dump heap))) index

pub lines-are : (dump : List ℕ) (index : Contents) (processes : List Process) (heaps : List (Option ℕ)) → heaps ≡ map (λ (p : Process). heap_place (sections_in index) p.pid) processes
    → flat_map (references_at dump index) heaps ≡ lines_of dump index (map (λ (p : Process). p.pid) processes)
lines-are dump index processes heaps is =
    flat_map-is (references_at dump index) heaps ∙ ap join (by-pid (λ heap. references (enc_of index.version) (body_in dump heap)) index processes heaps is)
    ∙ sym (flat_map-is (references_of dump index) (map (λ (p : Process). p.pid) processes))
  where
    join : {Y : Type 0} → List (List Y) → List Y
    join [] = []
    join (l ∷ ls) = l ++ join ls

    flat_map-is : {X Y : Type 0} (f : X → List Y) (xs : List X) → flat_map f xs ≡ join (map f xs)
    flat_map-is f [] = refl
    flat_map-is f (x ∷ xs) = ap (λ l. f x ++ l) (flat_map-is f xs)

-- what the processes have, by the places of their heaps and by their pids
pub binaries-are : (dump : List ℕ) (index : Contents) (processes : List Process) → map (binaries_at dump index) processes ≡ map (binary_heap dump index) processes
binaries-are dump index [] = refl
binaries-are dump index (p ∷ ps) =
    let heap = section-found (λ (s : Section). is_named (codes "proc_heap") (Some p.pid) s.text) index _ refl in
    let same : references_at dump index (heap_place (sections_in index) p.pid) ≡ references_of dump index p.pid = ap (λ o. references (enc_of index.version) (body_in dump o)) heap in
    let rest = binaries-are dump index ps in
    λ i. record { counted = binary_bytes p; references = same i } ∷ rest i

-- what the node counted for all processes is what it counted for those that are listed
listed-counted : (binaries : List Binary) (n : ℕ) (heaps : List BinaryHeap)
    → sum_by (λ (h : Holding). h.counted) (filter has_binaries (map (holding_of binaries) (enumerate_from n heaps))) ≡ sum_by (λ (h : BinaryHeap). h.counted) heaps
listed-counted binaries n [] = refl
listed-counted binaries n (heap ∷ heaps) = by (nat_lt 0 (length heap.references)) (nat_lt 0 heap.counted) refl (listed-counted binaries (n + 1) heaps)
  where
    one : Holding
    one = holding_of binaries (n, heap)

    later : List Holding
    later = filter has_binaries (map (holding_of binaries) (enumerate_from (n + 1) heaps))

    stated : List Holding → ℕ
    stated = sum_by (λ (h : Holding). h.counted)

    all : List BinaryHeap → ℕ
    all = sum_by (λ (h : BinaryHeap). h.counted)

    with_one : stated later ≡ all heaps → stated (one ∷ later) ≡ all (heap ∷ heaps)
    with_one so_far = omega (arith, so_far, sum_by-cons (λ (h : Holding). h.counted) one later, sum_by-cons (λ (h : BinaryHeap). h.counted) heap heaps)

    by : (a b : Bool) → nat_lt 0 heap.counted ≡ b → stated later ≡ all heaps → stated (if a || b then one ∷ later else later) ≡ all (heap ∷ heaps)
    by true b is so_far = with_one so_far
    by false true is so_far = with_one so_far
    by false false is so_far =
        let none : heap.counted ≤ 0 = ltb-false _ _ is in omega (arith, none, so_far, sum_by-cons (λ (h : BinaryHeap). h.counted) heap heaps)

counted-each : (dump : List ℕ) (index : Contents) (processes : List Process) → sum_by (λ (h : BinaryHeap). h.counted) (map (binary_heap dump index) processes) ≡ sum_by binary_bytes processes
counted-each dump index [] = refl
counted-each dump index (p ∷ ps) =
    omega (arith, counted-each dump index ps, sum_by-cons (λ (h : BinaryHeap). h.counted) (binary_heap dump index p) (map (binary_heap dump index) ps), sum_by-cons binary_bytes p ps)

pub counted-are : (dump : List ℕ) (index : Contents) (processes : List Process) (binaries : List Binary)
    → sum_by (λ (h : Holding). h.counted) (filter has_binaries (held_of dump index processes binaries)) ≡ sum_by binary_bytes processes
counted-are dump index processes binaries = listed-counted binaries 0 (map (binary_heap dump index) processes) ∙ counted-each dump index processes

-- they have no more bytes than may be read of the heaps
pub fits : (index : Contents) (processes : List Process) (heaps read : List (Option ℕ)) → heaps ≡ map (λ (p : Process). heap_place (sections_in index) p.pid) processes → read ≡ heaps
    → sum_by (size_at index) read ≤ heaps_length index (map (λ (p : Process). p.pid) processes)
fits index processes heaps read is same =
    let pids = map (λ (p : Process). p.pid) processes in
    let sizes : sum_by (size_at index) read ≡ heaps_length index pids =
    ap (sum_by (size_at index)) same ∙ sym (sum-map (size_at index) heaps) ∙ ap sum (by-pid body_size index processes heaps is)
    ∙ sum-map (λ pid. body_size (heap_section pid (sections_in index))) pids in
    omega (arith, sizes)

-- ---- the fronts of the stored binaries

few-firsts : (seen : List ℕ) (xs : List Stored) → length (firsts seen xs) ≤ length xs
few-firsts seen [] = omega arith
few-firsts seen (x ∷ xs) =
    elim (is_among seen x.number) as (λ b. length (if b then firsts seen xs else x ∷ firsts (x.number ∷ seen) xs) ≤ length (x ∷ xs))
    [ true ↦ omega (arith, few-firsts seen xs) | false ↦ omega (arith, few-firsts (x.number ∷ seen) xs) ]

few-binaries : (sections : List Section) → length (filter_map stored_binary sections) ≤ count_by (λ (s : Section). has_tag (codes "binary") s.text) sections
few-binaries [] = omega arith
few-binaries (s ∷ sections) =
    let count = sum_by-cons (λ (t : Section). cond (has_tag (codes "binary") t.text) 1 0) s sections in
    let least : length (cons_option (stored_binary s) (filter_map stored_binary sections)) ≤ cond (has_tag (codes "binary") s.text) 1 0 + length (filter_map stored_binary sections) =
    by (has_tag (codes "binary") s.text) (option_and_then hex_number (id_of s.text)) in
    omega (arith, count, least, few-binaries sections)
  where
    by : (b : Bool) (o : Option ℕ) → length (cons_option (option_map (stored_at s) (if b then o else None)) (filter_map stored_binary sections)) ≤ cond b 1 0 + length (filter_map stored_binary sections)
    by true None = omega arith
    by true (Some n) = omega arith
    by false o = omega arith

pub fronts-enough : (index : Contents) (list : List StoredAt) → map (stored_of index) list ≡ stored_in index → 17 * length list ≤ fronts_length index
fronts-enough index list are =
    let size : length list ≡ length (stored_in index) = sym (length-map list (stored_of index)) ∙ ap length are in
    omega (arith, size, few-firsts [] (filter_map stored_binary (sections_in index)), few-binaries (sections_in index))

pub sizes-are : (dump : List ℕ) (index : Contents) (list : List StoredAt) (binaries : List Binary) → map (stored_of index) list ≡ stored_in index
    → binaries ≡ map (λ (b : StoredAt). sized_binary dump (stored_of index b)) list → binaries ≡ binaries_in dump index
sizes-are dump index list binaries are is = is ∙ sym (map-map (sized_binary dump) (stored_of index) list) ∙ ap (map (sized_binary dump)) are

-- ---- the rows of the binaries

-- a list with an element for each target has one for each stored binary
pub same-sizes : {X : Type 0} (targets : List Binary) (list : List StoredAt) → numbers_in targets ≡ numbers_of list → (xs : List X) (stored : List StoredAt) → length xs ≡ length targets → length stored ≡ length list
    → length xs ≡ length stored
same-sizes targets list numbers xs stored first second =
    first ∙ sym (length-map targets (λ (b : Binary). b.number)) ∙ ap length numbers ∙ length-map list (λ (s : StoredAt). s.number) ∙ sym second

abbrev no_place : StoredAt
no_place = record { number = 0; section = 0 }

pub rows-are : (dump : List ℕ) (index : Contents) (heaps : List (List ℕ)) (list : List StoredAt) (binaries : List Binary) (holders : List ℕ) (counts : Counts) (rows : List BinaryRow)
    → map (stored_of index) list ≡ stored_in index → binaries ≡ binaries_in dump index → HasCounted binaries heaps [] counts → holders ≡ counts.holders.items
    → AreRows index list binaries holders (length list) rows → rows ≡ rows_in dump index heaps
rows-are dump index heaps list binaries holders counts rows are is had counted found =
    same_lists rows (map (λ (s : StoredAt). binary_row dump heaps (stored_of index s)) list) (found.count ∙ sym (length-map list (λ (s : StoredAt). binary_row dump heaps (stored_of index s))))
    (λ k d inside.
    let here : k < length list = omega (arith, inside, found.count) in
    let s = get_or list k no_place in
    let all : binaries ≡ map (λ (b : StoredAt). sized_binary dump (stored_of index b)) list = is ∙ sym (ap (map (sized_binary dump)) are) ∙ map-map (sized_binary dump) (stored_of index) list in
    let size : length binaries ≡ length list = ap length all ∙ length-map list (λ (b : StoredAt). sized_binary dump (stored_of index b)) in
    let binary : get_or binaries k no_binary ≡ sized_binary dump (stored_of index s) =
    ap (λ l. get_or l k no_binary) all ∙ get_or-map (λ (b : StoredAt). sized_binary dump (stored_of index b)) list k no_place no_binary here in
    let number : number_at binaries k ≡ s.number = at-number binaries k (omega (arith, here, size)) ∙ ap (λ (b : Binary). b.number) binary in
    let count : slice_index holders k ≡ holders_of heaps s.number =
    ap (λ l. slice_index l k) counted ∙ had.holders k (omega (arith, here, size)) ∙ ap (holders_of (heaps ++ [] ∷ [])) number
    ∙ sum_by_push (λ refs. cond (is_among refs s.number) 1 0) heaps [] ∙ (let e : holders_of heaps s.number + 0 ≡ holders_of heaps s.number = omega arith in e) in
    found.each k d no_place no_binary here
    ∙ ap (λ (b : Binary). row_at index s b (slice_index holders k)) binary
    ∙ ap (row_at index s (sized_binary dump (stored_of index s))) count
    ∙ sym (get_or-map (λ (s : StoredAt). binary_row dump heaps (stored_of index s)) list k no_place d here))
    ∙ sym (map-map (binary_row dump heaps) (stored_of index) list) ∙ ap (map (binary_row dump heaps)) are
