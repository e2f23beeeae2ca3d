-- Pids that rise: each is at its own place, one behind the last is new, and one is found by a search.
use Rattle.std.proofs.Common.{◌≡◌, ℕ, ◌+◌, ◌-◌, ◌<◌, inl, inr, Bool, true, false, ltb, List, [], ◌∷◌, ◌++◌, length, get_or, slice_get, Option, None, Some, refl, sym, ◌∙◌, ap, subst, arith, length-append}
use Rattle.std.specs.Prelude.{position, Result, Ok, Err}
use Rattle.std.specs.Cmp.{IsTotalOrder}
use Rattle.std.specs.Cmp.Lexicographic.{nat_list_cmp_total}
use Rattle.std.specs.List.{AllWithin}
use Rattle.std.specs.Global.{Vec}
use Rattle.std.specs.List.Sorted.{IsSortedBy, IsStrictlySortedBy, IsBinarySearchResult, IsSearchInRange}
use Rattle.std.specs.Option.{option_map_or}
use Rattle.std.specs.Ordering.{is_lt, ordering_reverse}
use Rattle.std.specs.declared.cmp.Ordering.{Ordering}
use Rattle.std.specs.declared.cmp.Ordering.TheVariants.{Less, Equal, Greater}
use Rattle.std.proofs.lemmas.Bool.{ltb-true, ltb-false}
use Rattle.std.proofs.lemmas.Cmp.{nat_cmp_total, on_total, then_total, tied_itself}
use Rattle.std.proofs.lemmas.List.{get_or_append_left, get_or_push}
use Rattle.std.proofs.lemmas.List.Sorted.{searchable_from_sorted}
use Rattle.std.proofs.lemmas.Map.Keys.{Less-from_sorted, sorted_from_all_adjacent}
use Rattle.std.proofs.lemmas.Option.{get_or_from_slice_get, slice_get_within, slice_get-get_or, slice_get_cases, same_Some}
use Rattle.std.proofs.lemmas.Slice.Eq.{bytes_eq-Decides}
use Rattle.process_table.specs.declared.pids.PidOrder.TheVariants.{Rising}
use Rattle.process_table.specs.declared.pids.PidPlace.{PidPlace}
use Rattle.process_table.specs.Inner.Finding.{has_pid, is_behind, named_places, rising_cmp, AreFoundRising, AreOrdered, AreOwn, AreRising}
use Rattle.process_table.proofs.Positions.{position-holds, position-push-there}
use Rattle.process_table.proofs.Ranking.{same-text}
use Rattle.dump_io.specs.Laws.Lists.{position-at, position-none}

-- how two places compare by their pids
abbrev by_pid : PidPlace → PidPlace → Ordering
by_pid a b = rising_cmp a.pid.items b.pid.items

-- the order is total, and decides whether pids are the same
rising_total : IsTotalOrder (λ (pid : List ℕ) (other : List ℕ). rising_cmp pid other)
rising_total = then_total (on_total (λ (pid : List ℕ). length pid) nat_cmp_total) nat_list_cmp_total

place_total : IsTotalOrder (λ (a : PidPlace) (b : PidPlace). rising_cmp a.pid.items b.pid.items)
place_total = on_total (λ (place : PidPlace). place.pid.items) rising_total

Equal-same : (xs ys : List ℕ) → rising_cmp xs ys ≡ Equal → xs ≡ ys
Equal-same xs ys e = grind (arith, same-text)

same-Equal : (xs ys : List ℕ) → xs ≡ ys → rising_cmp xs ys ≡ Equal
same-Equal xs ys same = ap (rising_cmp xs) (sym same) ∙ tied_itself rising_total xs

-- pids that don't compare as equal differ
other-differs : (pid : List ℕ) (place : PidPlace) → (rising_cmp place.pid.items pid ≡ Equal → ⊥) → has_pid pid place ≡ false
other-differs pid place unequal = grind (arith, same-Equal, bytes_eq-Decides)

Less-differs : (pid : List ℕ) (place : PidPlace) → rising_cmp place.pid.items pid ≡ Less → has_pid pid place ≡ false
Less-differs pid place less = other-differs pid place (λ equal. let clash : Less ≡ Equal = sym less ∙ equal in cc)

Greater-differs : (pid : List ℕ) (place : PidPlace) → rising_cmp place.pid.items pid ≡ Greater → has_pid pid place ≡ false
Greater-differs pid place more = other-differs pid place (λ equal. let clash : Greater ≡ Equal = sym more ∙ equal in cc)

-- each pid that rises is at its own place
pub AreOwn-rising : (places : List PidPlace) → AreRising places → AreOwn places
AreOwn-rising places rising number place at =
    position-at (has_pid place.pid.items) places place number place (λ k before. Less-differs place.pid.items (get_or places k place) (less k before)) at
    ((bytes_eq-Decides place.pid.items place.pid.items).1 refl)
  where
    less : (k : ℕ) → k < number → rising_cmp (get_or places k place).pid.items place.pid.items ≡ Less
    less k before =
        subst (λ (p : PidPlace). rising_cmp (get_or places k place).pid.items p.pid.items ≡ Less) (get_or_from_slice_get places number place place at)
        (Less-from_sorted by_pid places k number place rising before (slice_get_within places number place at))

-- they are in order as they stand
pub AreOrdered-rising : (places : List PidPlace) → AreRising places → AreOrdered places Rising
AreOrdered-rising places rising = record { own = AreOwn-rising places rising; kept = rising }

lt-Less : (o : Ordering) → is_lt o ≡ true → o ≡ Less
lt-Less o e = grind arith

-- a pid behind the last one comes behind all
pub AreRising-push : (places : List PidPlace) (place : PidPlace) → AreRising places → is_behind places place.pid.items ≡ true → AreRising (places ++ place ∷ [])
AreRising-push places place rising behind = sorted_from_all_adjacent place_total (places ++ place ∷ []) place next
  where
    next : (k : ℕ) → k + 1 < length (places ++ place ∷ []) → by_pid (get_or (places ++ place ∷ []) k place) (get_or (places ++ place ∷ []) (k + 1) place) ≡ Less
    next k inside = by (ltb (k + 1) (length places)) refl
      where
        here : k < length places
        here = omega (arith, inside, length-append places (place ∷ []))

        first : get_or (places ++ place ∷ []) k place ≡ get_or places k place
        first = get_or_append_left places (place ∷ []) place k here

        by : (b : Bool) → ltb (k + 1) (length places) ≡ b → by_pid (get_or (places ++ place ∷ []) k place) (get_or (places ++ place ∷ []) (k + 1) place) ≡ Less
        by true e =
            let within : k + 1 < length places = ltb-true (k + 1) (length places) e in
            ap (λ (a : PidPlace). by_pid a (get_or (places ++ place ∷ []) (k + 1) place)) first
            ∙ ap (by_pid (get_or places k place)) (get_or_append_left places (place ∷ []) place (k + 1) within)
            ∙ Less-from_sorted by_pid places k (k + 1) place rising (omega arith) within
        by false e =
            let last : length places ≡ k + 1 = omega (arith, ltb-false (k + 1) (length places) e, here) in
            let before : length places - 1 ≡ k = omega (arith, last) in
            let there : slice_get places (length places - 1) ≡ Some (get_or places k place) = ap (slice_get places) before ∙ slice_get-get_or places k place here in
            ap (λ (a : PidPlace). by_pid a (get_or (places ++ place ∷ []) (k + 1) place)) first
            ∙ ap (by_pid (get_or places k place)) (get_or_push places place place (k + 1) last)
            ∙ lt-Less _ (sym (ap (λ o. option_map_or (λ (q : PidPlace). is_lt (rising_cmp q.pid.items place.pid.items)) o true) there) ∙ behind)

-- none have been found yet
pub AreFoundRising-none : (places : Vec PidPlace) → places.items ≡ [] → AreFoundRising places []
unfolding IsStrictlySortedBy
AreFoundRising-none places none = record { rising = subst AreRising (sym none) tt; found = record { records = ap named_places none; all = omega (arith, ap length none) } }

-- a pid behind those that rise is new
pub position-rising : (places : List PidPlace) (place : PidPlace) → AreRising (places ++ place ∷ []) → position (has_pid place.pid.items) places ≡ None
position-rising places place rising = by (position (has_pid place.pid.items) places) refl
  where
    last : slice_get (places ++ place ∷ []) (length places) ≡ Some place
    last =
        slice_get-get_or (places ++ place ∷ []) (length places) place (omega (arith, length-append places (place ∷ [])))
        ∙ ap Some (get_or_push places place place (length places) refl)

    by : (o : Option ℕ) → position (has_pid place.pid.items) places ≡ o → position (has_pid place.pid.items) places ≡ None
    by None e = e
    by (Some n) e =
        let found = position-holds (has_pid place.pid.items) places n e in
        let within : n < length places = slice_get_within places n found.0 found.1 in
        let same : n ≡ length places =
        same_Some n (length places) (sym (position-push-there (has_pid place.pid.items) places place n e) ∙ AreOwn-rising (places ++ place ∷ []) rising (length places) place last) in
        absurd (omega (arith, same, within))

-- what a search among pids that rise says
abbrev Searches : List PidPlace → List ℕ → Result ℕ ℕ → Type 0
Searches places pid r = IsBinarySearchResult (λ place. rising_cmp place.pid.items pid) places r

pub rising-ok : (places : List PidPlace) (pid : List ℕ) (r : Result ℕ ℕ) (at : ℕ) → AreOwn places → r ≡ Ok at
    → Searches places pid r → IsSearchInRange r (length places) → position (has_pid pid) places ≡ Some at
rising-ok places pid r at own is result range =
    let inside : at < length places = subst (λ x. IsSearchInRange x (length places)) is range in
    elim (slice_get_cases places at).1 [
      | inl found ↦
          let equal : rising_cmp (get_or places at found.0).pid.items pid ≡ Equal = (subst (Searches places pid) is result) found.0 in
          let same : found.0.pid.items ≡ pid = Equal-same found.0.pid.items pid (sym (ap (λ (p : PidPlace). rising_cmp p.pid.items pid) found.3) ∙ equal) in
          subst (λ t. position (has_pid t) places ≡ Some at) same (own at found.0 found.2)
      | inr past ↦ absurd (omega (arith, inside, past.0))
    ]

pub rising-err : (places : List PidPlace) (pid : List ℕ) (r : Result ℕ ℕ) (at : ℕ) → AreRising places → r ≡ Err at
    → Searches places pid r → position (has_pid pid) places ≡ None
rising-err places pid r at rising is result =
    let point = (subst (Searches places pid) is result) (searchable_from_sorted rising_total (λ (place : PidPlace). place.pid.items) places pid sorted) in
    position-none (has_pid pid) places (λ k d inside. sides point.0 point.1 k d inside (ltb k at) refl)
  where
    sorted : IsSortedBy (λ (a : PidPlace) (b : PidPlace). is_lt (rising_cmp a.pid.items b.pid.items)) places
    sorted k d low inside =
        let a = get_or places k d in
        let b = get_or places (k + 1) d in
        ap is_lt (place_total.antisymm b a ∙ ap ordering_reverse (Less-from_sorted by_pid places k (k + 1) d rising (omega arith) inside))

    sides : AllWithin (λ (place : PidPlace). rising_cmp place.pid.items pid ≡ Less) places 0 at
        → AllWithin (λ (place : PidPlace). rising_cmp place.pid.items pid ≡ Greater) places at (length places)
        → (k : ℕ) (d : PidPlace) → k < length places → (b : Bool) → ltb k at ≡ b → has_pid pid (get_or places k d) ≡ false
    sides before behind k d inside true e = Less-differs pid (get_or places k d) (before k d (omega arith) (ltb-true k at e))
    sides before behind k d inside false e = Greater-differs pid (get_or places k d) (behind k d (ltb-false k at e) inside)
