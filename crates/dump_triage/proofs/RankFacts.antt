-- The rows of the places of a list: how one comes behind the others, and that each is of one of its places.
use Rattle.std.proofs.Common.{◌≡◌, ℕ, zero, suc, ◌+◌, ◌<◌, ◌≤◌, Bool, true, false, List, [], ◌∷◌, ◌++◌, length, take, filter, map, Option, Some, None, sym, ◌∙◌, ap, subst, arith, if◌then◌else◌}
use Rattle.std.specs.Prelude.{slice_get, All, IfOk, Result, nat_lt}
use Rattle.std.specs.Global.{Vec}
use Rattle.std.specs.List.{enumerate_from, filter_map, cons_option, list_any, sum_by}
use Rattle.std.specs.Option.{option_map, option_to_list}
use Rattle.std.proofs.lemmas.List.{length-map, take_all}
use Rattle.std.proofs.lemmas.List.Elements.{All-nil, All-cons, All-filter, All-head, All-tail, All-take}
use Rattle.std.proofs.lemmas.List.FromFn.{length-enumerate_from}
use Rattle.text_groups.specs.Groups.{Item, group_at, groups, has_text, members}
use Rattle.text_groups.specs.Sums.{capped}
use Rattle.text_groups.specs.declared.text_group.TextGroup.{TextGroup}
use Rattle.text_groups.specs.Sorting.{put_row, most_first}
use Rattle.dump_sections.specs.Index.{Contents}
use Rattle.section_rows.specs.Rows.{Row}
use Rattle.process_table.specs.Processes.{Process}
use Rattle.dump_audit.specs.Laws.{told-at}
use Rattle.dump_triage.specs.declared.ranked.Ranked.{Ranked}
use Rattle.dump_triage.specs.Ranking.{AreWithin, first_rows, largest, ranked_row, rows_by}
use Rattle.process_table.specs.Numbers.{binary_bytes, stated_number}
use Rattle.dump_triage.specs.Triage.{FitsTriage, count_at_first, process_state_text, state_texts, triage_of, words_in, AreGroupsWithin, bytes_of, first_groups, has_use, is_several, port_item, stand_item, stand_items}

-- the row of one place more
pub rows-more : {X : Type 0} (number : ℕ × X → Option ℕ) (items : List X) (i : ℕ) (x : X) (told : Option ℕ) (before after : List Ranked) → slice_get items i ≡ Some x
    → before ≡ rows_by number (take i items) → told ≡ number (i, x) → after ≡ before ++ option_to_list (ranked_row i told) → after ≡ rows_by number (take (i + 1) items)
rows-more number items i x told before after at were is more =
    more
    ∙ ap (λ l. l ++ option_to_list (ranked_row i told)) were
    ∙ ap (λ n. rows_by number (take i items) ++ option_to_list (ranked_row i n)) is
    ∙ sym (told-at (λ item. ranked_row item.0 (number item)) items i x at)

-- once each place has its row, the first of the rows are what is largest in the list
pub largest-all : {X E : Type 0} (number : ℕ × X → Option ℕ) (items : List X) (i most : ℕ) (rows : List Ranked) (result : Result (Vec Ranked) E) → length items ≤ i → rows ≡ rows_by number (take i items)
    → IfOk result (λ first. first.items ≡ first_rows most rows) → IfOk result (λ first. first.items ≡ largest most number items)
largest-all number items i most rows result all are first =
    subst (λ l. IfOk result (λ first. first.items ≡ first_rows most l)) (are ∙ ap (rows_by number) (take_all i items all)) first

-- ---- each row is of a place

rows-within : {X : Type 0} (number : ℕ × X → Option ℕ) (count n : ℕ) (items : List X) → n + length items ≤ count
    → AreWithin count (filter_map (λ item. ranked_row item.0 (number item)) (enumerate_from n items))
rows-within number count n [] few = All-nil (λ (row : Ranked). row.place < count)
rows-within number count n (x ∷ items) few = by (number (n, x)) (rows-within number count (n + 1) items (omega (arith, few)))
  where
    rest : List Ranked
    rest = filter_map (λ item. ranked_row item.0 (number item)) (enumerate_from (n + 1) items)

    by : (o : Option ℕ) → AreWithin count rest → AreWithin count (cons_option (ranked_row n o) rest)
    by None all = all
    by (Some zero) all = all
    by (Some (suc less)) all = All-cons (λ (row : Ranked). row.place < count) (record { place = n; number = suc less }) rest (omega (arith, few)) all

All-put : {X : Type 0} (P : X → Type 0) (size : X → ℕ) (row : X) (rows : List X) → P row → All P rows → All P (put_row size row rows)
All-put P size row [] one all = All-cons P row [] one all
All-put P size row (first ∷ rows) one all = by (nat_lt (size row) (size first)) (All-put P size row rows one (All-tail P first rows all))
  where
    by : (b : Bool) → All P (put_row size row rows) → All P (if b then first ∷ put_row size row rows else row ∷ (first ∷ rows))
    by true rest = All-cons P first (put_row size row rows) (All-head P first rows all) rest
    by false rest = All-cons P row (first ∷ rows) one all

All-most : {X : Type 0} (P : X → Type 0) (size : X → ℕ) (rows : List X) → All P rows → All P (most_first size rows)
All-most P size [] all = all
All-most P size (row ∷ rows) all = All-put P size row (most_first size rows) (All-head P row rows all) (All-most P size rows (All-tail P row rows all))

largest-within : {X : Type 0} (most : ℕ) (number : ℕ × X → Option ℕ) (items : List X) (count : ℕ) → length items ≤ count → AreWithin count (first_rows most (rows_by number items))
largest-within most number items count few =
    let P = λ (row : Ranked). row.place < count in
    let size = λ (row : Ranked). row.number in
    All-take P most (most_first size (rows_by number items)) (All-most P size (rows_by number items) (rows-within number count 0 items (omega (arith, few))))

-- so are groups
groups-within : (count most : ℕ) (test : TextGroup → Bool) (found : List TextGroup) → AreGroupsWithin count found → AreGroupsWithin count (first_groups most (filter test found))
groups-within count most test found all =
    let P = λ (group : TextGroup). group.first < count in
    let size = λ (group : TextGroup). group.count in
    All-take P most (most_first size (filter test found)) (All-most P size (filter test found) (All-filter test P found all))

-- a group's first item is one of the items
first-within : (items all : List Item) (n : ℕ) → AreGroupsWithin (n + length items) (filter_map (group_at all) (enumerate_from n items))
first-within [] all n = All-nil (λ (group : TextGroup). group.first < n + 0)
first-within (item ∷ items) all n =
    let P = λ (group : TextGroup). group.first < n + length (item ∷ items) in
    let rest = filter_map (group_at all) (enumerate_from (n + 1) items) in
    let count : n + 1 + length items ≡ n + length (item ∷ items) = omega arith in
    by (list_any (has_text item.text) (take n all)) (subst (λ k. AreGroupsWithin k rest) count (first-within items all (n + 1)))
  where
    by : (b : Bool) → AreGroupsWithin (n + length (item ∷ items)) (filter_map (group_at all) (enumerate_from (n + 1) items))
        → AreGroupsWithin (n + length (item ∷ items)) (cons_option (if b then None else Some (record { first = n; count = length (members item.text all); weight = capped (sum_by (λ (i : Item). i.weight) (members item.text all)) })) (filter_map (group_at all) (enumerate_from (n + 1) items)))
    by true rest = rest
    by false rest =
        All-cons (λ (group : TextGroup). group.first < n + length (item ∷ items)) _ (filter_map (group_at all) (enumerate_from (n + 1) items)) (omega arith) rest

pub triage-fits : (index : Contents) (processes : List Process) (stands rows ports : List Row) (most : ℕ)
    → FitsTriage processes rows ports (triage_of index processes stands rows ports most)
triage-fits index processes stands rows ports most = record {
  states = largest-within most (count_at_first (state_texts processes)) (state_texts processes) (length processes) (omega (arith, length-map processes process_state_text));
  queues = largest-within most (λ item. stated_number item.1.queue) processes (length processes) (omega arith);
  memory = largest-within most (λ item. stated_number item.1.memory) processes (length processes) (omega arith);
  binaries = largest-within most (λ item. Some (binary_bytes item.1)) processes (length processes) (omega arith);
  tables = largest-within most (λ item. option_map bytes_of (words_in item.1)) rows (length rows) (omega arith);
  groups =
      let items = stand_items processes stands in
      let count : 0 + length items ≡ length processes = omega (arith, length-map (enumerate_from 0 processes) (stand_item stands), length-enumerate_from 0 processes) in
      groups-within (length processes) most is_several (groups items) (subst (λ n. AreGroupsWithin n (groups items)) count (first-within items items 0));
  ports =
      let items = map port_item ports in
      let count : 0 + length items ≡ length ports = omega (arith, length-map ports port_item) in
      groups-within (length ports) most (has_use ports) (groups items) (subst (λ n. AreGroupsWithin n (groups items)) count (first-within items items 0));
}
