-- What is counted when a line refers to a binary.
use Rattle.std.proofs.Common.{◌≡◌, ◌≢◌, ℕ, zero, Option, suc, ◌+◌, ◌-◌, ◌^◌, ◌<◌, ◌≤◌, ◌==◌, Bool, true, false, cond, not, ◌&&◌, ◌||◌, List, [], ◌∷◌, ◌++◌, length, get_or, set, None, Some, refl, sym, ◌∙◌, ap, subst, arith, append-nil, append_assoc, ⊎_elim}
use Rattle.std.specs.Prelude.{min, slice_index, replicate, find, if◌then◌else◌}
use Rattle.std.specs.Option.{option_map_or}
use Rattle.std.specs.List.{count_by, sum_by, filter}
use Rattle.std.proofs.Math.Bool.{or-false}
use Rattle.std.proofs.lemmas.Bool.{cases_eq, eq-eqb, ne_eqb, or_right}
use Rattle.std.proofs.lemmas.List.{get_or-map, get_or-set_same, get_or-set_other, length-set, length-map, length_push, map-append}
use Rattle.std.proofs.lemmas.List.Folds.{list_any-append, list_any_at, list_any_none}
use Rattle.std.proofs.lemmas.List.Elements.{All-from_get_or}
use Rattle.std.proofs.lemmas.List.Sums.{sum_by-cons, sum_by_push, count_by-le-length}
use Rattle.binary_holders.specs.declared.counts.HeapLines.{HeapLines}
use Rattle.binary_holders.specs.declared.targets.Binary.{Binary}
use Rattle.binary_holders.specs.declared.counts.Counts.{Counts}
use Rattle.text_groups.specs.Sums.{capped}
use Rattle.binary_holders.specs.Held.{bytes_held, cells_holding, first_cell, holding_of, holds, holders_of, is_known, is_unstored, whole_lines}
use Rattle.binary_holders.specs.StoredBinaries.{is_among}
use Rattle.binary_holders.specs.Inner.Places.{numbers_in, IsOnlyPlace}
use Rattle.binary_holders.specs.HeapReferences.{numbers_referred}
use Rattle.binary_holders.specs.declared.rows.WholeLines.{WholeLines}
use Rattle.binary_holders.specs.declared.texts.Reference.{Reference}
use Rattle.binary_holders.specs.Inner.Counting.{number_at, counted, first_with, heap_lines, line_more, HasCounted, HasRoom, Adds, AddsNumbers, KeepsRoom}
use Rattle.binary_holders.proofs.SumFacts.{sum-agree, sum-differs, sum-filter, sum-part}

-- ---- several references one after another

numbers-then : (binaries : List Binary) (old mid new : Counts) (xs ys : List ℕ) → AddsNumbers binaries old mid xs → AddsNumbers binaries mid new ys → AddsNumbers binaries old new (xs ++ ys)
numbers-then binaries old mid new xs ys first second = record {
  later = λ heaps refs had. subst (λ l. HasCounted binaries heaps l new) (append_assoc refs xs ys) (second.later heaps (refs ++ xs) (first.later heaps refs had));
}

pub Adds-then : (binaries : List Binary) (old mid new : Counts) (xs ys : List Reference) → Adds binaries old mid xs → Adds binaries mid new ys → Adds binaries old new (xs ++ ys)
Adds-then binaries old mid new xs ys first second = record {
  numbers = subst (AddsNumbers binaries old new) (sym (map-append (λ (r : Reference). r.number) xs ys))
      (numbers-then binaries old mid new (numbers_referred xs) (numbers_referred ys) first.numbers second.numbers);
  heap = λ before is. second.heap (before ++ xs) (first.heap before is) ∙ ap (heap_lines binaries) (append_assoc before xs ys);
  lines = λ before is. second.lines (before ++ xs) (first.lines before is) ∙ ap (whole_lines binaries) (append_assoc before xs ys);
}

pub Adds-as : (binaries : List Binary) (old new : Counts) (xs ys : List Reference) → xs ≡ ys → Adds binaries old new xs → Adds binaries old new ys
Adds-as binaries old new xs ys same had = subst (Adds binaries old new) same had

-- ---- one reference more

among-push : (refs : List ℕ) (n m : ℕ) → is_among (refs ++ n ∷ []) m ≡ (is_among refs m || (n == m || false))
among-push refs n m = list_any-append (λ x. x == m) refs (n ∷ [])

among-other : (refs : List ℕ) (n m : ℕ) → n ≢ m → is_among (refs ++ n ∷ []) m ≡ is_among refs m
among-other refs n m other = among-push refs n m ∙ ap (λ b. is_among refs m || (b || false)) (ne_eqb n m other) ∙ or-false (is_among refs m)

among-here : (refs : List ℕ) (n m : ℕ) → n ≡ m → is_among (refs ++ n ∷ []) m ≡ true
among-here refs n m same = among-push refs n m ∙ or_right (is_among refs m) (n == m || false) (ap (λ b. b || false) (eq-eqb n m same))

abbrev pub no_binary : Binary
no_binary = record { number = 0; size = 0 }

pub at-number : (binaries : List Binary) (k : ℕ) → k < length binaries → number_at binaries k ≡ (get_or binaries k no_binary).number
at-number binaries k inside = get_or-map (λ (b : Binary). b.number) binaries k no_binary 0 inside

-- the same test of a binary, as a number
abbrev one : Bool → ℕ
one b = cond b 1 0

module _ (binaries : List Binary) (refs : List ℕ) (n : ℕ) where
  -- the binaries whose test stays
  abbrev Stays : ℕ → Type 0
  Stays k = is_among (refs ++ n ∷ []) (number_at binaries k) ≡ is_among refs (number_at binaries k)

  here-stays : (k : ℕ) → k < length binaries → Stays k → holds (refs ++ n ∷ []) (get_or binaries k no_binary) ≡ holds refs (get_or binaries k no_binary)
  here-stays k inside stays =
      ap (is_among (refs ++ n ∷ [])) (sym (at-number binaries k inside)) ∙ stays ∙ ap (is_among refs) (at-number binaries k inside)

  bytes-as : (xs : List ℕ) → sum_by (λ (b : Binary). b.size) (filter (holds xs) binaries) ≡ sum_by (λ (b : Binary). cond (holds xs b) b.size 0) binaries
  bytes-as xs = sum-filter (holds xs) (λ (b : Binary). b.size) binaries

  -- ---- where no test changes

  module _ (all : (k : ℕ) → k < length binaries → Stays k) where
    count-stays : count_by (holds (refs ++ n ∷ [])) binaries ≡ count_by (holds refs) binaries
    count-stays = sum-agree (λ b. one (holds refs b)) (λ b. one (holds (refs ++ n ∷ []) b)) binaries no_binary (λ k inside. ap one (here-stays k inside (all k inside)))

    bytes-stay : bytes_held binaries (refs ++ n ∷ []) ≡ bytes_held binaries refs
    bytes-stay =
        bytes-as (refs ++ n ∷ [])
        ∙ sum-agree (λ (b : Binary). cond (holds refs b) b.size 0) (λ (b : Binary). cond (holds (refs ++ n ∷ []) b) b.size 0) binaries no_binary
        (λ k inside. ap (λ t. cond t (get_or binaries k no_binary).size 0) (here-stays k inside (all k inside)))
        ∙ sym (bytes-as refs)

    holders-stay : (heaps : List (List ℕ)) (k : ℕ) → k < length binaries
        → holders_of (heaps ++ (refs ++ n ∷ []) ∷ []) (number_at binaries k) ≡ holders_of (heaps ++ refs ∷ []) (number_at binaries k)
    holders-stay heaps k inside =
        sum_by_push (λ xs. one (is_among xs (number_at binaries k))) heaps (refs ++ n ∷ [])
        ∙ ap (λ t. holders_of heaps (number_at binaries k) + one t) (all k inside)
        ∙ sym (sum_by_push (λ xs. one (is_among xs (number_at binaries k))) heaps refs)

    -- what was known stays
    counted-stays : (heaps : List (List ℕ)) (counts : Counts) → HasCounted binaries heaps refs counts → HasCounted binaries heaps (refs ++ n ∷ []) counts
    counted-stays heaps counts had = record {
      turn = had.turn;
      seen_size = had.seen_size;
      holders_size = had.holders_size;
      upto = had.upto;
      seen = λ k inside. had.seen k inside ∙ sym (all k inside);
      holders = λ k inside. had.holders k inside ∙ sym (holders-stay heaps k inside);
      count = had.count ∙ sym count-stays;
      total = had.total ∙ sym bytes-stay;
    }

  -- ---- where that of one place changes

  module _ (p : ℕ) (inside : p < length binaries) (before : is_among refs (number_at binaries p) ≡ false) (after : is_among (refs ++ n ∷ []) (number_at binaries p) ≡ true)
      (others : (k : ℕ) → k < length binaries → k ≢ p → Stays k) where
    was : holds refs (get_or binaries p no_binary) ≡ false
    was = ap (is_among refs) (sym (at-number binaries p inside)) ∙ before

    now : holds (refs ++ n ∷ []) (get_or binaries p no_binary) ≡ true
    now = ap (is_among (refs ++ n ∷ [])) (sym (at-number binaries p inside)) ∙ after

    count-grows : count_by (holds (refs ++ n ∷ [])) binaries ≡ count_by (holds refs) binaries + 1
    count-grows =
        sum-differs (λ b. one (holds refs b)) (λ b. one (holds (refs ++ n ∷ []) b)) binaries no_binary p 1 inside
        (ap one now ∙ sym (ap (λ t. one t + 1) was)) (λ k within other. ap one (here-stays k within (others k within other)))

    bytes-grow : bytes_held binaries (refs ++ n ∷ []) ≡ bytes_held binaries refs + (get_or binaries p no_binary).size
    bytes-grow =
        bytes-as (refs ++ n ∷ [])
        ∙ sum-differs (λ (b : Binary). cond (holds refs b) b.size 0) (λ (b : Binary). cond (holds (refs ++ n ∷ []) b) b.size 0) binaries no_binary p (get_or binaries p no_binary).size inside
        (ap (λ t. cond t (get_or binaries p no_binary).size 0) now ∙ sym (ap (λ t. cond t (get_or binaries p no_binary).size 0 + (get_or binaries p no_binary).size) was ∙ (let e : 0 + (get_or binaries p no_binary).size ≡ (get_or binaries p no_binary).size = omega arith in e)))
        (λ k within other. ap (λ t. cond t (get_or binaries k no_binary).size 0) (here-stays k within (others k within other)))
        ∙ ap (λ s. s + (get_or binaries p no_binary).size) (sym (bytes-as refs))

    holders-grow : (heaps : List (List ℕ))
        → holders_of (heaps ++ (refs ++ n ∷ []) ∷ []) (number_at binaries p) ≡ holders_of (heaps ++ refs ∷ []) (number_at binaries p) + 1
    holders-grow heaps =
        sum_by_push (λ xs. one (is_among xs (number_at binaries p))) heaps (refs ++ n ∷ [])
        ∙ ap (λ t. holders_of heaps (number_at binaries p) + one t) after
        ∙ (let e : holders_of heaps (number_at binaries p) + 1 ≡ holders_of heaps (number_at binaries p) + 0 + 1 = omega arith in e)
        ∙ ap (λ t. holders_of heaps (number_at binaries p) + one t + 1) (sym before)
        ∙ sym (ap (λ m. m + 1) (sum_by_push (λ xs. one (is_among xs (number_at binaries p))) heaps refs))

  -- ---- how many references are to one of them

  cells-as : cells_holding binaries (refs ++ n ∷ []) ≡ cells_holding binaries refs + one (is_among (numbers_in binaries) n)
  cells-as = sum_by_push (λ m. one (is_among (numbers_in binaries) m)) refs n

-- ---- the three cases of a reference

-- what is added to a capped sum
capped-sum : (a b : ℕ) → min (min a (2 ^ 64 - 1) + b) (2 ^ 64 - 1) ≡ capped (a + b)
capped-sum a b = omega arith

pub length-numbers : (binaries : List Binary) → length (numbers_in binaries) ≡ length binaries
length-numbers binaries = length-map binaries (λ (b : Binary). b.number)

-- a reference to none of them
pub unknown : (binaries : List Binary) (n : ℕ) → IsOnlyPlace (numbers_in binaries) n None → is_among (numbers_in binaries) n ≡ false
unknown binaries n none =
    list_any_none (λ m. m == n) (numbers_in binaries) (All-from_get_or (λ m. (m == n) ≡ false) (numbers_in binaries) 0 (λ k inside. ne_eqb (get_or (numbers_in binaries) k 0) n (none k inside)))

pub add-unknown : (binaries : List Binary) (counts : Counts) (n : ℕ) → IsOnlyPlace (numbers_in binaries) n None → AddsNumbers binaries counts counts (n ∷ [])
add-unknown binaries counts n none = record {
  later = λ heaps refs had.
      let stays = λ (k : ℕ) (inside : k < length binaries). among-other refs n (number_at binaries k) (λ same. none k (omega (arith, inside, length-numbers binaries)) (sym same)) in
      counted-stays binaries refs n stays heaps counts had;
}

-- the number is that of the binary at a place, and of no other
module _ (binaries : List Binary) (n p : ℕ) (only : IsOnlyPlace (numbers_in binaries) n (Some p)) where
  within : p < length binaries
  within = omega (arith, only.0, length-numbers binaries)

  apart : (k : ℕ) → k < length binaries → k ≢ p → n ≢ number_at binaries k
  apart k inside other same = other (only.2 k (omega (arith, inside, length-numbers binaries)) (sym same))

  pub known : is_among (numbers_in binaries) n ≡ true
  known = list_any_at (λ m. m == n) (numbers_in binaries) p 0 only.0 (eq-eqb (get_or (numbers_in binaries) p 0) n only.1)

  -- the heap holds it already
  pub add-again : (counts : Counts) → slice_index counts.seen.items p ≡ counts.turn → AddsNumbers binaries counts counts (n ∷ [])
  add-again counts held = record {
    later = λ heaps refs had.
        let there : is_among refs (number_at binaries p) ≡ true = sym (had.seen p within) ∙ eq-eqb (slice_index counts.seen.items p) counts.turn held in
        let stays : (k : ℕ) → k < length binaries → is_among (refs ++ n ∷ []) (number_at binaries k) ≡ is_among refs (number_at binaries k) =
        λ k inside. ⊎_elim
        (λ same. ap (λ m. is_among (refs ++ n ∷ []) (number_at binaries m)) same ∙ among-here refs n (number_at binaries p) (sym only.1) ∙ sym there ∙ ap (λ m. is_among refs (number_at binaries m)) (sym same))
        (λ other. among-other refs n (number_at binaries k) (apart k inside other))
        (cases_eq k p) in
        counted-stays binaries refs n stays heaps counts had;
  }

  -- the heap didn't hold it before
  pub add-new : (counts new : Counts) → sum_by (λ (b : Binary). b.size) binaries < 2 ^ 128 → length binaries + 1 < 2 ^ 64 → counts.turn < 2 ^ 32 → slice_index counts.seen.items p ≢ counts.turn → new.turn ≡ counts.turn
      → new.seen.items ≡ set counts.seen.items p counts.turn → new.holders.items ≡ set counts.holders.items p (min (slice_index counts.holders.items p + 1) (2 ^ 32 - 1))
      → new.count ≡ min (counts.count + 1) (2 ^ 64 - 1) → new.total ≡ min (counts.total + (get_or binaries p no_binary).size) (2 ^ 128 - 1)
      → AddsNumbers binaries counts new (n ∷ [])
  add-new counts new fits few small unheld turn seen holders count total = record {
    later = λ heaps refs had.
        let before : is_among refs (number_at binaries p) ≡ false = sym (had.seen p within) ∙ ne_eqb (slice_index counts.seen.items p) counts.turn unheld in
        let after : is_among (refs ++ n ∷ []) (number_at binaries p) ≡ true = among-here refs n (number_at binaries p) (sym only.1) in
        let others : (k : ℕ) → k < length binaries → k ≢ p → is_among (refs ++ n ∷ []) (number_at binaries k) ≡ is_among refs (number_at binaries k) =
        λ k inside other. among-other refs n (number_at binaries k) (apart k inside other) in
        let seen_room : p < length counts.seen.items = omega (arith, within, had.seen_size) in
        let holders_room : p < length counts.holders.items = omega (arith, within, had.holders_size) in
        record {
          turn = turn ∙ had.turn;
          seen_size = ap length seen ∙ length-set counts.seen.items p counts.turn ∙ had.seen_size;
          holders_size = ap length holders ∙ length-set counts.holders.items p (min (slice_index counts.holders.items p + 1) (2 ^ 32 - 1)) ∙ had.holders_size;
          upto = λ k. ⊎_elim
              (λ same.
              let here : slice_index new.seen.items k ≡ counts.turn = ap (λ l. slice_index l k) seen ∙ ap (λ m. slice_index (set counts.seen.items p counts.turn) m) same ∙ get_or-set_same counts.seen.items p counts.turn 0 seen_room in
              omega (arith, here, turn))
              (λ other.
              let there : slice_index new.seen.items k ≡ slice_index counts.seen.items k = ap (λ l. slice_index l k) seen ∙ get_or-set_other counts.seen.items p k counts.turn 0 other in
              let most = had.upto k in
              omega (arith, there, turn, most))
              (cases_eq k p);
          seen = λ k inside. ⊎_elim
              (λ same.
              let here : slice_index new.seen.items k ≡ new.turn = ap (λ l. slice_index l k) seen ∙ ap (λ m. slice_index (set counts.seen.items p counts.turn) m) same ∙ get_or-set_same counts.seen.items p counts.turn 0 seen_room ∙ sym turn in
              eq-eqb (slice_index new.seen.items k) new.turn here ∙ sym after ∙ ap (λ m. is_among (refs ++ n ∷ []) (number_at binaries m)) (sym same))
              (λ other.
              let there : slice_index new.seen.items k ≡ slice_index counts.seen.items k = ap (λ l. slice_index l k) seen ∙ get_or-set_other counts.seen.items p k counts.turn 0 other in
              ap (λ m. m == new.turn) there ∙ ap (λ m. slice_index counts.seen.items k == m) turn ∙ had.seen k inside ∙ sym (others k inside other))
              (cases_eq k p);
          holders = λ k inside. ⊎_elim
              (λ same.
              let was = had.holders p within in
              let few_heaps = count_by-le-length (λ xs. is_among xs (number_at binaries p)) heaps in
              let pushed = sum_by_push (λ xs. one (is_among xs (number_at binaries p))) heaps refs ∙ ap (λ t. holders_of heaps (number_at binaries p) + one t) before in
              let room : slice_index counts.holders.items p + 1 ≤ 2 ^ 32 - 1 = omega (arith, was, few_heaps, pushed, had.turn, small) in
              let here : min (slice_index counts.holders.items p + 1) (2 ^ 32 - 1) ≡ slice_index counts.holders.items p + 1 = omega (arith, room) in
              ap (λ l. slice_index l k) holders
              ∙ ap (λ m. slice_index (set counts.holders.items p (min (slice_index counts.holders.items p + 1) (2 ^ 32 - 1))) m) same
              ∙ get_or-set_same counts.holders.items p (min (slice_index counts.holders.items p + 1) (2 ^ 32 - 1)) 0 holders_room
              ∙ here ∙ ap (λ m. m + 1) was ∙ sym (holders-grow binaries refs n p within before after others heaps) ∙ ap (λ m. holders_of (heaps ++ (refs ++ n ∷ []) ∷ []) (number_at binaries m)) (sym same))
              (λ other.
              ap (λ l. slice_index l k) holders
              ∙ get_or-set_other counts.holders.items p k (min (slice_index counts.holders.items p + 1) (2 ^ 32 - 1)) 0 other
              ∙ had.holders k inside
              ∙ sum_by_push (λ xs. one (is_among xs (number_at binaries k))) heaps refs
              ∙ ap (λ t. holders_of heaps (number_at binaries k) + one t) (sym (others k inside other))
              ∙ sym (sum_by_push (λ xs. one (is_among xs (number_at binaries k))) heaps (refs ++ n ∷ [])))
              (cases_eq k p);
          count = (let most = count_by-le-length (holds refs) binaries in
              let room : min (counts.count + 1) (2 ^ 64 - 1) ≡ counts.count + 1 = omega (arith, most, had.count, few) in
              count ∙ room ∙ ap (λ m. m + 1) had.count ∙ sym (count-grows binaries refs n p within before after others));
          total = (let grown = bytes-grow binaries refs n p within before after others in
              let most = sum-part (holds (refs ++ n ∷ [])) (λ (b : Binary). b.size) binaries in
              let room : min (counts.total + (get_or binaries p no_binary).size) (2 ^ 128 - 1) ≡ bytes_held binaries (refs ++ n ∷ []) = omega (arith, grown, most, had.total, fits) in
              total ∙ room);
        };
  }

-- ---- one heap behind another

-- a heap that refers to nothing holds nothing
none-held : (binaries : List Binary) → count_by (holds []) binaries ≡ 0
none-held [] = refl
none-held (b ∷ binaries) = let rest = none-held binaries in omega (arith, rest, sum_by-cons (λ c. one (holds [] c)) b binaries)

sum-none : (binaries : List Binary) → sum_by (λ (b : Binary). b.size) (filter (holds []) binaries) ≡ 0
sum-none [] = refl
sum-none (b ∷ binaries) = sum-none binaries

-- the next turn
pub next-turn : (binaries : List Binary) (heaps : List (List ℕ)) (refs : List ℕ) (counts new : Counts) → HasCounted binaries heaps refs counts → new.turn ≡ counts.turn + 1
    → new.seen ≡ counts.seen → new.holders ≡ counts.holders → new.count ≡ 0 → new.total ≡ 0 → HasCounted binaries (heaps ++ refs ∷ []) [] new
next-turn binaries heaps refs counts new had turn seen holders count bytes = record {
  turn = turn ∙ (let e = length_push heaps refs in let same : counts.turn + 1 ≡ length (heaps ++ refs ∷ []) + 1 = omega (arith, e, had.turn) in same);
  seen_size = ap (λ (v : _). length v.items) seen ∙ had.seen_size;
  holders_size = ap (λ (v : _). length v.items) holders ∙ had.holders_size;
  upto = λ k. (let most = had.upto k in let same : slice_index new.seen.items k ≡ slice_index counts.seen.items k = ap (λ (v : _). slice_index v.items k) seen in omega (arith, most, same, turn));
  seen = λ k inside.
      (let most = had.upto k in
      let same : slice_index new.seen.items k ≡ slice_index counts.seen.items k = ap (λ (v : _). slice_index v.items k) seen in
      ne_eqb (slice_index new.seen.items k) new.turn (λ is. omega (arith, most, same, turn, is)));
  holders = λ k inside.
      ap (λ (v : _). slice_index v.items k) holders ∙ had.holders k inside
      ∙ (let e : holders_of (heaps ++ refs ∷ []) (number_at binaries k) ≡ holders_of (heaps ++ refs ∷ []) (number_at binaries k) + 0 = omega arith in e)
      ∙ sym (sum_by_push (λ xs. one (is_among xs (number_at binaries k))) (heaps ++ refs ∷ []) []);
  count = count ∙ sym (none-held binaries);
  total = bytes ∙ sym (sum-none binaries);
}

-- nothing was counted
pub nothing-counted : (binaries : List Binary) (counts : Counts) → counts.turn ≡ 1 → counts.count ≡ 0 → counts.total ≡ 0
    → length counts.seen.items ≡ length binaries → length counts.holders.items ≡ length binaries
    → ((k : ℕ) → slice_index counts.seen.items k ≡ 0) → ((k : ℕ) → slice_index counts.holders.items k ≡ 0) → HasCounted binaries [] [] counts
nothing-counted binaries counts turn count bytes seen_size holders_size seen holders = record {
  turn = turn;
  seen_size = seen_size;
  holders_size = holders_size;
  upto = λ k. (let none = seen k in omega (arith, none));
  seen = λ k inside. (let none = seen k in ne_eqb (slice_index counts.seen.items k) counts.turn (λ is. omega (arith, none, is, turn)));
  holders = λ k inside. holders k;
  count = count ∙ sym (none-held binaries);
  total = bytes ∙ sym (sum-none binaries);
}

-- room that nothing was written into
pub zeros-at : (n k : ℕ) → slice_index (replicate n 0) k ≡ 0
zeros-at zero k = refl
zeros-at (suc n) zero = refl
zeros-at (suc n) (suc k) = zeros-at n k

-- what a process holds
pub held-is : (binaries : List Binary) (heaps : List (List ℕ)) (lines : List Reference) (counts : Counts) (process bytes : ℕ) → HasCounted binaries heaps (numbers_referred lines) counts
    → counts.heap ≡ heap_lines binaries lines → length lines < 2 ^ 64 → counted process bytes counts ≡ holding_of binaries (process, record { counted = bytes; references = lines })
held-is binaries heaps lines counts process bytes had same few =
    let most = count_by-le-length (is_among (numbers_in binaries)) (numbers_referred lines) in
    let size = length-map lines (λ (r : Reference). r.number) in
    let all : counts.heap.lines ≡ length lines = ap (λ (h : HeapLines). h.lines) same ∙ (let e : capped (length lines) ≡ length lines = omega (arith, few) in e) in
    let own : counts.heap.cells ≡ cells_holding binaries (numbers_referred lines) =
    ap (λ (h : HeapLines). h.cells) same ∙ (let e : capped (cells_holding binaries (numbers_referred lines)) ≡ cells_holding binaries (numbers_referred lines) = omega (arith, few, most, size) in e) in
    let first : counts.heap.first ≡ first_cell binaries lines = ap (λ (h : HeapLines). h.first) same in
    λ i. record {
      process = process;
      counted = bytes;
      bytes = capped (had.total i);
      total = had.total i;
      count = had.count i;
      lines = all i;
      cells = own i;
      first = first i;
    }

-- ---- the room stays

pub room-kept : (count : ℕ) (old new : Counts) → HasRoom count old → KeepsRoom old new → HasRoom count new
room-kept count old new room keeps = record {
  turn = omega (arith, room.turn, keeps.turn);
  seen = keeps.seen ∙ room.seen;
  holders = keeps.holders ∙ room.holders;
}

pub keeps-then : (old mid new : Counts) → KeepsRoom old mid → KeepsRoom mid new → KeepsRoom old new
keeps-then old mid new first second = record {
  turn = second.turn ∙ first.turn;
  seen = second.seen ∙ first.seen;
  holders = second.holders ∙ first.holders;
}

-- no reference was counted
pub Adds-none : (binaries : List Binary) (counts : Counts) → Adds binaries counts counts []
Adds-none binaries counts = record {
  numbers = record { later = λ heaps refs had. subst (λ l. HasCounted binaries heaps l counts) (sym (append-nil refs)) had };
  heap = λ before is. is ∙ ap (heap_lines binaries) (sym (append-nil before));
  lines = λ before is. is ∙ ap (whole_lines binaries) (sym (append-nil before));
}

-- ---- the lines

-- two equal counts of lines
lines-same : (one other : WholeLines) → one.count ≡ other.count → one.unstored ≡ other.unstored → one ≡ other
lines-same one other count unstored = λ i. record { count = count i; unstored = unstored i }

-- one line more
pub one-line : (binaries : List Binary) (old mid new : Counts) (line : Reference) (known : Bool) → mid.lines ≡ old.lines → known ≡ is_among (numbers_in binaries) line.number
    → new.lines.count ≡ min (mid.lines.count + one line.whole) (2 ^ 64 - 1) → new.lines.unstored ≡ min (mid.lines.unstored + one (line.whole && not known)) (2 ^ 64 - 1)
    → (before : List Reference) → old.lines ≡ whole_lines binaries before → new.lines ≡ whole_lines binaries (before ++ line ∷ [])
one-line binaries old mid new line known same is count unstored before had =
    let counted = ap (λ (l : WholeLines). l.count) (same ∙ had) in
    let gone = ap (λ (l : WholeLines). l.unstored) (same ∙ had) in
    lines-same new.lines (whole_lines binaries (before ++ line ∷ []))
    (count ∙ ap (λ m. min (m + one line.whole) (2 ^ 64 - 1)) counted ∙ capped-sum (count_by (λ (r : Reference). r.whole) before) (one line.whole)
    ∙ ap capped (sym (sum_by_push (λ (r : Reference). one r.whole) before line)))
    (unstored ∙ ap (λ m. min (m + one (line.whole && not known)) (2 ^ 64 - 1)) gone ∙ ap (λ k. min (capped (count_by (is_unstored binaries) before) + one (line.whole && not k)) (2 ^ 64 - 1)) is
    ∙ capped-sum (count_by (is_unstored binaries) before) (one (is_unstored binaries line))
    ∙ ap capped (sym (sum_by_push (λ (r : Reference). one (is_unstored binaries r)) before line)))

-- ---- the lines of one heap

module _ (binaries : List Binary) (line : Reference) where
  -- whether the line refers to one of the binaries
  abbrev own : Bool
  own = is_among (numbers_in binaries) line.number

  -- the first line that does, once there is one line more
  first-grows : (before : List Reference) → first_with line.address own (heap_lines binaries before) ≡ first_cell binaries (before ++ line ∷ [])
  first-grows [] = by own
    where
      by : (k : Bool) → first_with line.address k (heap_lines binaries []) ≡ option_map_or (λ (r : Reference). r.address) (if k then Some line else None) 0
      by true = refl
      by false = refl
  first-grows (x ∷ rest) =
      let count = sum_by-cons (λ m. one (is_among (numbers_in binaries) m)) x.number (numbers_referred rest) in
      ap (λ n. if own && (capped n == 0) then line.address else first_cell binaries (x ∷ rest)) count
      ∙ by (is_among (numbers_in binaries) x.number) own (cells_holding binaries (numbers_referred rest)) (find (is_known binaries) rest) (find (is_known binaries) (rest ++ line ∷ [])) (first-grows rest)
    where
      by : (b k : Bool) (n : ℕ) (o o' : Option Reference)
          → (if k && (capped n == 0) then line.address else option_map_or (λ (r : Reference). r.address) o 0) ≡ option_map_or (λ (r : Reference). r.address) o' 0
          → (if k && (capped (one b + n) == 0) then line.address else option_map_or (λ (r : Reference). r.address) (if b then Some x else o) 0)
          ≡ option_map_or (λ (r : Reference). r.address) (if b then Some x else o') 0
      by true true n o o' same = ap (λ t. if t then line.address else x.address) (ne_eqb (capped (1 + n)) 0 (λ is. omega (arith, is)))
      by true false n o o' same = refl
      by false k n o o' same =
          (let e : 0 + n ≡ n = omega arith in ap (λ m. if k && (capped m == 0) then line.address else option_map_or (λ (r : Reference). r.address) o 0) e) ∙ same

  lines-grow : (before : List Reference) → line_more line.address own (heap_lines binaries before) ≡ heap_lines binaries (before ++ line ∷ [])
  lines-grow before =
      let all : min (capped (length before) + 1) (2 ^ 64 - 1) ≡ capped (length (before ++ line ∷ [])) = (let size = length_push before line in omega (arith, size)) in
      let numbers : cells_holding binaries (numbers_referred (before ++ line ∷ [])) ≡ cells_holding binaries (numbers_referred before) + one own =
      ap (cells_holding binaries) (map-append (λ (r : Reference). r.number) before (line ∷ [])) ∙ cells-as binaries (numbers_referred before) line.number in
      let cells : min (capped (cells_holding binaries (numbers_referred before)) + one own) (2 ^ 64 - 1) ≡ capped (cells_holding binaries (numbers_referred (before ++ line ∷ []))) =
      capped-sum (cells_holding binaries (numbers_referred before)) (one own) ∙ ap capped (sym numbers) in
      let first = first-grows before in
      λ i. record { lines = all i; cells = cells i; first = first i }

  -- one line more of the heap
  pub heap-line : (old mid new : Counts) (known : Bool) → mid.heap ≡ old.heap → known ≡ own → new.heap ≡ line_more line.address known mid.heap
      → (before : List Reference) → old.heap ≡ heap_lines binaries before → new.heap ≡ heap_lines binaries (before ++ line ∷ [])
  heap-line old mid new known same is more before had =
      more ∙ ap (line_more line.address known) (same ∙ had) ∙ ap (λ k. line_more line.address k (heap_lines binaries before)) is ∙ lines-grow before
