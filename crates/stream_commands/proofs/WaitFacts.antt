-- The lines of processes that wait, and of those on circles.
use Rattle.std.proofs.Common.{◌≡◌, ◌<◌, ◌+◌, ◌++◌, ◌∷◌, ◌==◌, ◌∙◌, [], ap, arith, refl, subst, suc, sym, zero, length, Bool, false, true, List, None, Option, Some, ℕ}
use Rattle.std.specs.Prelude.{filter, nat_le, nat_lt, slice_get, filter_map, option_and_then, All, if◌then◌else◌}
use Rattle.std.specs.List.{cons_option, flat_map, list_all, list_any, range_with_len}
use Rattle.std.specs.Option.{option_map}
use Rattle.std.proofs.lemmas.List.Elements.{All-append, All-cons, All-head, All-map, All-nil, All-push, All-tail, All-weaker}
use Rattle.std.proofs.lemmas.List.FromFn.{get_or-range_with_len, length-range_with_len}
use Rattle.std.proofs.lemmas.List.Quantifiers.{position-Some}
use Rattle.std.proofs.lemmas.Option.{slice_get_read}
use Rattle.text_groups.specs.Sorting.{most_first, put_row}
use Rattle.wait_circles.specs.Blockers.{all_of, blocker_at, direct_of}
use Rattle.wait_circles.specs.Circles.{circle_from, circles, members, numbered}
use Rattle.wait_circles.specs.Report.{wait_report, WaitReport}
use Rattle.wait_circles.specs.Steps.{upto, way_within}
use Rattle.wait_circles.specs.Waiters.{Waiter, has_pid, next_of, process_of, target_at, waits_for}
use Rattle.wait_circles.specs.declared.blocker.Blocker.{Blocker}
use Rattle.wait_circles.specs.declared.on_circle.OnCircle.{OnCircle}
use Rattle.wait_requests.specs.Waits.{waiters_with}
use Rattle.dump_sections.specs.Index.{Contents}
use Rattle.process_table.specs.Processes.{Process, ProcessTable}
use Rattle.section_rows.specs.Rows.{Row}
use Rattle.stream_commands.specs.Waits.{waits_report, waits_with}
use Rattle.stream_commands.specs.Inner.Waits.{seen_waits, AreAmong}

-- the number at a place of those from 0 on
pub range-at : (count i : ℕ) → i < count → slice_get (range_with_len 0 count) i ≡ Some i
range-at count i low =
    slice_get_read (range_with_len 0 count) count i i (sym (length-range_with_len 0 count)) low (omega (arith, get_or-range_with_len 0 count i i low))

-- the texts of those that pass a test
pub flat_map-filter : {X : Type 0} (text : X → List ℕ) (test : X → Bool) (xs : List X)
    → flat_map (λ x. if test x then text x else []) xs ≡ flat_map text (filter test xs)
flat_map-filter text test [] = refl
flat_map-filter text test (x ∷ xs) = by (test x) (flat_map-filter text test xs)
  where
    by : (b : Bool) → flat_map (λ y. if test y then text y else []) xs ≡ flat_map text (filter test xs)
        → (if b then text x else []) ++ flat_map (λ y. if test y then text y else []) xs ≡ flat_map text (if b then x ∷ filter test xs else filter test xs)
    by true rest = ap (λ l. text x ++ l) rest
    by false rest = rest

-- each process has a waiter, if of each it is known for whom it waits
pub waiters-length : (processes : List Process) (targets : List (Option (List ℕ))) → length targets ≡ length processes
    → length (waiters_with processes targets) ≡ length processes
waiters-length [] targets same = refl
waiters-length (process ∷ processes) [] same = absurd (omega (arith, same))
waiters-length (process ∷ processes) (target ∷ targets) same = omega (arith, waiters-length processes targets (omega (arith, same)))

-- ---- what is found is of the processes

-- what a function gives of the items has a property
All-filter_map : {X Y : Type 0} (P : X → Type 0) (Q : Y → Type 0) (part : X → Option Y) → ((x : X) (y : Y) → P x → part x ≡ Some y → Q y)
    → (xs : List X) → All P xs → All Q (filter_map part xs)
All-filter_map P Q part follows [] all = All-nil Q
All-filter_map P Q part follows (x ∷ xs) all = by (part x) refl (All-filter_map P Q part follows xs (All-tail P x xs all))
  where
    by : (o : Option _) → part x ≡ o → All Q (filter_map part xs) → All Q (cons_option o (filter_map part xs))
    by None is rest = rest
    by (Some y) is rest = All-cons Q y (filter_map part xs) (follows x y (All-head P x xs all) is) rest

All-put : {X : Type 0} (P : X → Type 0) (size : X → ℕ) (row : X) (rows : List X) → P row → All P rows → All P (put_row size row rows)
All-put P size row [] one all = All-cons P row [] one all
All-put P size row (first ∷ rows) one all = by (nat_lt (size row) (size first)) (All-put P size row rows one (All-tail P first rows all))
  where
    by : (b : Bool) → All P (put_row size row rows) → All P (if b then first ∷ put_row size row rows else row ∷ (first ∷ rows))
    by true rest = All-cons P first (put_row size row rows) (All-head P first rows all) rest
    by false rest = All-cons P row (first ∷ rows) one all

All-most : {X : Type 0} (P : X → Type 0) (size : X → ℕ) (rows : List X) → All P rows → All P (most_first size rows)
All-most P size [] all = all
All-most P size (row ∷ rows) all = All-put P size row (most_first size rows) (All-head P row rows all) (All-most P size rows (All-tail P row rows all))

upto-low : (count : ℕ) → All (λ r. r < count) (upto count)
upto-low zero = All-nil (λ r. r < zero)
upto-low (suc n) =
    All-push (λ r. r < suc n) (upto n) n (All-weaker (λ r. r < n) (λ r. r < suc n) (λ r low. omega (arith, low)) (upto n) (upto-low n)) (omega arith)

-- a target is that of the process by which it was found
blocker-first : (ws : List Waiter) (r : ℕ) (b : Blocker) → blocker_at ws r ≡ Some b → b.first ≡ r
blocker-first ws r b is = by (target_at ws r) is
  where
    of : (test : Bool) (all direct : ℕ) → (if test then None else Some (let one : Blocker = record { first = r; all = all; direct = direct } in one)) ≡ Some b → b.first ≡ r
    of true all direct e = absurd (let none : ⊥ = cc e in none)
    of false all direct e = let same : (let one : Blocker = record { first = r; all = all; direct = direct } in one) ≡ b = cc e in sym (ap (λ (x : Blocker). x.first) same)

    by : (o : Option (List ℕ)) → option_and_then (λ target. if list_any (waits_for ws target) (upto r) then None
        else Some (record { first = r; all = all_of ws target; direct = direct_of ws target })) o ≡ Some b → b.first ≡ r
    by None e = absurd (let none : ⊥ = cc e in none)
    by (Some target) e = of (list_any (waits_for ws target) (upto r)) (all_of ws target) (direct_of ws target) e

-- the next of a process is one of the processes
next-low : (ws : List Waiter) (r s : ℕ) → next_of ws r ≡ Some s → s < length ws
next-low ws r s is = by (target_at ws r) is
  where
    by : (o : Option (List ℕ)) → option_and_then (process_of ws) o ≡ Some s → s < length ws
    by None e = absurd (let none : ⊥ = cc e in none)
    by (Some target) e = (position-Some (has_pid target) ws s (record { pid = []; target = None }) e).0

-- steps that lead from below a number to below it
module _ (next : ℕ → Option ℕ) (bound : ℕ) (low : (r s : ℕ) → next r ≡ Some s → s < bound) where
  abbrev Low : ℕ → Type 0
  Low v = v < bound

  behind-low : (r : ℕ) (way : List ℕ) → r < bound → (on : Option (List ℕ)) → ((w : List ℕ) → on ≡ Some w → All Low w)
      → (b : Bool) → (if b then Some (r ∷ []) else option_map (λ w. r ∷ w) on) ≡ Some way → All Low way
  behind-low r way here on rest true is = subst (All Low) (let same : r ∷ [] ≡ way = cc is in same) (All-cons Low r [] here (All-nil Low))
  behind-low r way here None rest false is = absurd (let no : ⊥ = cc is in no)
  behind-low r way here (Some w) rest false is = subst (All Low) (let same : r ∷ w ≡ way = cc is in same) (All-cons Low r w here (rest w refl))

  -- the numbers of a way are below it
  way-low : (home n r : ℕ) → r < bound → (way : List ℕ) → way_within next home n r ≡ Some way → All Low way
  way-low home zero r here way is = absurd (let no : ⊥ = cc is in no)
  way-low home (suc n) r here way is = by (next r) refl (way-low home n) is
    where
      by : (o : Option ℕ) → next r ≡ o → ((s : ℕ) → s < bound → (w : List ℕ) → way_within next home n s ≡ Some w → All Low w)
          → option_and_then (λ s. if s == home then Some (r ∷ []) else option_map (λ w. r ∷ w) (way_within next home n s)) o ≡ Some way → All Low way
      by None leads rest e = absurd (let none : ⊥ = cc e in none)
      by (Some s) leads rest e = behind-low r way here (way_within next home n s) (rest s (low r s leads)) (s == home) e

  -- so are those of a circle
  circle-low : (count r : ℕ) (circle : List ℕ) → r < bound → circle_from next count r ≡ Some circle → All Low circle
  circle-low count r circle here is = by (way_within next r count r) (way-low r count r here) is
    where
      of : (b : Bool) (way : List ℕ) → All Low way → (if b then Some way else None) ≡ Some circle → All Low circle
      of true way all e = subst (All Low) (let same : way ≡ circle = cc e in same) all
      of false way all e = absurd (let none : ⊥ = cc e in none)

      by : (o : Option (List ℕ)) → ((way : List ℕ) → o ≡ Some way → All Low way)
          → option_and_then (λ way. if list_all (nat_le r) way then Some way else None) o ≡ Some circle → All Low circle
      by None all e = absurd (let none : ⊥ = cc e in none)
      by (Some way) all e = of (list_all (nat_le r) way) way (all way refl) e

-- the processes on circles, of which each is below a number
numbered-low : (bound number : ℕ) (cs : List (List ℕ)) → All (All (λ v. v < bound)) cs → All (λ (on : OnCircle). on.process < bound) (numbered number cs)
numbered-low bound number [] all = All-nil (λ (on : OnCircle). on.process < bound)
numbered-low bound number (circle ∷ more) all =
    All-append (λ (on : OnCircle). on.process < bound) (members number circle) (numbered (number + 1) more)
    (All-map (λ (on : OnCircle). on.process < bound) (λ r. record { circle = number; process = r }) circle (All-head (All (λ v. v < bound)) circle more all))
    (numbered-low bound (number + 1) more (All-tail (All (λ v. v < bound)) circle more all))

-- what is found of processes is of these
pub AreAmong-report : (ws : List Waiter) → AreAmong (length ws) (wait_report ws)
AreAmong-report ws =
    let count = length ws in
    let First = λ (b : Blocker). b.first < count in
    let places = upto-low count in
    record {
      blockers = All-most First (λ blocker. blocker.all) (filter_map (blocker_at ws) (upto count))
          (All-filter_map (λ r. r < count) First (blocker_at ws) (λ r b low is. omega (arith, low, blocker-first ws r b is)) (upto count) places);
      circles = numbered-low count 1 (circles ws)
          (All-filter_map (λ r. r < count) (All (λ v. v < count)) (circle_from (next_of ws) count)
          (λ r circle low is. circle-low (next_of ws) count (next-low ws) count r circle low is) (upto count) places);
    }

-- what is told of what was read is the report of `waits`
pub report-told : (most : ℕ) (index : Contents) (table : ProcessTable) (stands : List Row) (targets : List (Option (List ℕ))) (ws : List Waiter) (found : WaitReport)
    → ws ≡ waiters_with table.processes targets → found ≡ wait_report ws
    → waits_with most (record { index = index; processes = table.processes; stands = stands; waiters = ws }) found
    ≡ waits_report most (seen_waits index table stands targets)
report-told most index table stands targets ws found same is =
    ap (waits_with most (record { index = index; processes = table.processes; stands = stands; waiters = ws })) is
    ∙ ap (λ w. waits_report most (record { index = index; processes = table.processes; stands = stands; waiters = w })) same
