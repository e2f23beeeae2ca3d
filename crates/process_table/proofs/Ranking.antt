-- The numbers of pids, in a tree and in the order of their pids.
use Rattle.std.proofs.Common.{◌≡◌, ℕ, zero, suc, ◌+◌, ◌<◌, ◌⊎◌, inl, inr, Bool, true, false, cond, ltb, List, [], ◌∷◌, ◌++◌, length, get_or, slice_get, Option, None, Some, refl, sym, ◌∙◌, ap, subst, arith}
use Rattle.std.specs.Prelude.{position, option_map, Contains, Result, Ok, Err}
use Rattle.std.specs.BTreeMap.{BTreeMap, IsOrdered, get_by, values, keys}
use Rattle.std.specs.Cmp.{IsTotalOrder}
use Rattle.std.specs.Cmp.Lexicographic.{slice_cmp, nat_list_cmp_total}
use Rattle.std.specs.List.Sorted.{IsSortedBy, IsBinarySearchResult, IsSearchInRange}
use Rattle.std.specs.Map.{update}
use Rattle.std.specs.Option.{option_map_or}
use Rattle.std.specs.Ordering.{nat_cmp, is_lt, is_eq, ordering_reverse}
use Rattle.std.specs.declared.cmp.Ordering.TheVariants.{Less, Equal, Greater}
use Rattle.std.specs.Str.{bytes_eq}
use denote.Ref.{Bor}
use Rattle.std.specs.List.{AllWithin}
use Rattle.std.proofs.lemmas.Bool.{false≢true, ltb-true, ltb-false}
use Rattle.std.proofs.lemmas.Cmp.{on_total}
use Rattle.std.proofs.lemmas.List.{length-map, get_or-map}
use Rattle.std.proofs.lemmas.List.Sorted.{searchable_from_sorted}
use Rattle.std.proofs.lemmas.Map.Entries.{btree_map_get_place, place_from_lookup}
use Rattle.std.proofs.lemmas.Map.Keys.{Less-from_sorted}
use Rattle.std.proofs.lemmas.Option.{get_or_from_slice_get, slice_get_within, slice_get-get_or, slice_get-map, same_Some}
use Rattle.std.proofs.lemmas.Slice.Eq.{bytes_eq-Decides}
use Rattle.process_table.specs.declared.pids.PidPlace.{PidPlace}
use Rattle.process_table.specs.Inner.Finding.{has_pid, pid_at, AreOwn, AreNumbered, AreRanked}
use Rattle.process_table.proofs.Positions.{position-holds, position-push-new, position-push-there, position-push-other}

-- texts that compare as equal are one
pub same-text : (xs ys : List ℕ) → slice_cmp nat_cmp xs ys ≡ Equal → xs ≡ ys
same-text [] [] e = refl
same-text [] (y ∷ ys) e = cc
same-text (x ∷ xs) [] e = cc
same-text (x ∷ xs) (y ∷ ys) e = grind (arith, same-text xs ys)

pub text-itself : (xs : List ℕ) → slice_cmp nat_cmp xs xs ≡ Equal
text-itself xs = Rattle.std.proofs.lemmas.Cmp.tied_itself nat_list_cmp_total xs

-- what stands in a list with one more element
push-cases : {X : Type 0} (xs : List X) (x q : X) (n : ℕ) → slice_get (xs ++ x ∷ []) n ≡ Some q → (slice_get xs n ≡ Some q) ⊎ ((n ≡ length xs) × (x ≡ q))
push-cases [] x q zero is = inr (refl, same_Some x q is)
push-cases [] x q (suc n) is = cc
push-cases (y ∷ xs) x q zero is = inl is
push-cases (y ∷ xs) x q (suc n) is = grind (arith, push-cases xs x q n is)

none-own : (pid : List ℕ) (place : PidPlace) → place.pid.items ≡ pid → has_pid pid place ≡ true
none-own pid place same = (bytes_eq-Decides pid place.pid.items).1 (sym same)

pub AreNumbered-push : (before after : BTreeMap (Bor (List ℕ)) ℕ) (places : List PidPlace) (place : PidPlace) (pid : List ℕ) → AreNumbered before places → place.pid.items ≡ pid
    → position (has_pid pid) places ≡ None
    → ((other : List ℕ) → get_by (λ key. slice_cmp nat_cmp other key.now) after ≡ update bytes_eq (λ t. get_by (λ key. slice_cmp nat_cmp t key.now) before) pid (Some (length places)) other)
    → AreNumbered after (places ++ place ∷ [])
AreNumbered-push before after places place pid are same new grown = record { own = own; found = found }
  where
    differs : (other : List ℕ) (b : Bool) → bytes_eq pid other ≡ b → b ≡ false → has_pid other place ≡ false
    differs other true e wrong = absurd (false≢true (sym wrong))
    differs other false e right = of (has_pid other place) refl
      where
        of : (c : Bool) → has_pid other place ≡ c → c ≡ false
        of false f = refl
        of true f =
            let one : other ≡ place.pid.items = (bytes_eq-Decides other place.pid.items).0 f in
            absurd (false≢true (sym e ∙ (bytes_eq-Decides pid other).1 (sym (one ∙ same))))

    found : (other : List ℕ) → get_by (λ key. slice_cmp nat_cmp other key.now) after ≡ position (has_pid other) (places ++ place ∷ [])
    found other = grown other ∙ by (bytes_eq pid other) refl
      where
        by : (b : Bool) → bytes_eq pid other ≡ b
            → cond (bytes_eq pid other) (Some (length places)) (get_by (λ key. slice_cmp nat_cmp other key.now) before) ≡ position (has_pid other) (places ++ place ∷ [])
        by true e =
            let one : pid ≡ other = (bytes_eq-Decides pid other).0 e in
            ap (λ b. cond b (Some (length places)) (get_by (λ key. slice_cmp nat_cmp other key.now) before)) e
            ∙ sym (position-push-new (has_pid other) places place (subst (λ t. position (has_pid t) places ≡ None) one new) (none-own other place (same ∙ one)))
        by false e =
            ap (λ b. cond b (Some (length places)) (get_by (λ key. slice_cmp nat_cmp other key.now) before)) e
            ∙ are.found other ∙ sym (position-push-other (has_pid other) places place (differs other false e refl))

    own : AreOwn (places ++ place ∷ [])
    own number q at =
        elim (push-cases places place q number at) [
          | inl there ↦ position-push-there (has_pid q.pid.items) places place number (are.own number q there)
          | inr last ↦
              let one : pid ≡ q.pid.items = sym same ∙ ap (λ (x : PidPlace). x.pid.items) last.1 in
              position-push-new (has_pid q.pid.items) places place (subst (λ t. position (has_pid t) places ≡ None) one new)
              (none-own q.pid.items place (same ∙ one)) ∙ ap Some (sym last.0)
        ]

-- what a tree that is in order says of the numbers of its values
module _ (numbers : BTreeMap (Bor (List ℕ)) ℕ) (places : List PidPlace) (are : AreNumbered numbers places)
    (ordered : IsOrdered (λ x y. slice_cmp nat_cmp x.now y.now) numbers) where
  abbrev order : List ℕ
  order = values numbers

  key_total : IsTotalOrder (λ (x : Bor (List ℕ)) (y : Bor (List ℕ)). slice_cmp nat_cmp x.now y.now)
  key_total = on_total (λ (x : Bor (List ℕ)). x.now) nat_list_cmp_total

  at-entry : (k : ℕ) (e : Bor (List ℕ) × ℕ) → slice_get numbers.entries k ≡ Some e → position (has_pid e.0.now) places ≡ Some e.1
  at-entry k e at = sym (are.found e.0.now) ∙ btree_map_get_place key_total numbers k e.0 e.1 ordered at

  pid-entry : (pid : List ℕ) (n : ℕ) → position (has_pid pid) places ≡ Some n → pid_at places n ≡ pid
  pid-entry pid n is = grind (arith, position-holds, bytes_eq-Decides)

  pub AreRanked-values : AreRanked places (values numbers)
  AreRanked-values = record {
    rising = λ pid. searchable_from_sorted nat_list_cmp_total (pid_at places) order pid sorted;
    known = λ k d inside. known k d inside;
    all = all;
  }
    where
      none : Bor (List ℕ) × ℕ
      none = (record { ref_ptr = (0, 0); now = [] }, 0)

      entry : (k : ℕ) (d : ℕ) → k < length order → (e : Bor (List ℕ) × ℕ) × (slice_get numbers.entries k ≡ Some e) × (get_or order k d ≡ e.1)
      entry k d inside =
          let within : k < length numbers.entries = omega (arith, inside, length-map numbers.entries (λ (e : Bor (List ℕ) × ℕ). e.1)) in
          let e = get_or numbers.entries k none in
          (e, slice_get-get_or numbers.entries k none within, get_or-map (λ (e : Bor (List ℕ) × ℕ). e.1) numbers.entries k none d within)

      own-pid : (k : ℕ) (d : ℕ) (inside : k < length order) → pid_at places (get_or order k d) ≡ (entry k d inside).0.0.now
      own-pid k d inside =
          let e = entry k d inside in
          ap (pid_at places) e.2 ∙ pid-entry e.0.0.now e.0.1 (at-entry k e.0 e.1)

      known : (k d : ℕ) → k < length order → position (has_pid (pid_at places (get_or order k d))) places ≡ Some (get_or order k d)
      known k d inside =
          let e = entry k d inside in
          ap (λ t. position (has_pid t) places) (own-pid k d inside) ∙ at-entry k e.0 e.1 ∙ ap Some (sym e.2)

      key-at : (k : ℕ) (d : ℕ) (inside : k < length order) → get_or (keys numbers) k none.0 ≡ (entry k d inside).0.0
      key-at k d inside =
          let within : k < length numbers.entries = omega (arith, inside, length-map numbers.entries (λ (e : Bor (List ℕ) × ℕ). e.1)) in
          get_or-map (λ (e : Bor (List ℕ) × ℕ). e.0) numbers.entries k none none.0 within

      sorted : IsSortedBy (λ a b. is_lt (slice_cmp nat_cmp (pid_at places a) (pid_at places b))) order
      sorted k d low inside =
          let before : k < length order = omega (arith, inside) in
          let within : k + 1 < length (keys numbers) =
          omega (arith, inside, length-map numbers.entries (λ (e : Bor (List ℕ) × ℕ). e.1), length-map numbers.entries (λ (e : Bor (List ℕ) × ℕ). e.0)) in
          let less = Less-from_sorted (λ (x : Bor (List ℕ)) (y : Bor (List ℕ)). slice_cmp nat_cmp x.now y.now) (keys numbers) k (k + 1) none.0 ordered (omega arith) within in
          let one : (get_or (keys numbers) k none.0).now ≡ pid_at places (get_or order k d) = ap (λ (x : Bor (List ℕ)). x.now) (key-at k d before) ∙ sym (own-pid k d before) in
          let next : (get_or (keys numbers) (k + 1) none.0).now ≡ pid_at places (get_or order (k + 1) d) =
          ap (λ (x : Bor (List ℕ)). x.now) (key-at (k + 1) d inside) ∙ sym (own-pid (k + 1) d inside) in
          let a = pid_at places (get_or order k d) in
          let b = pid_at places (get_or order (k + 1) d) in
          let rises : slice_cmp nat_cmp a b ≡ Less = subst (λ t. slice_cmp nat_cmp t b ≡ Less) one (subst (λ t. slice_cmp nat_cmp (get_or (keys numbers) k none.0).now t ≡ Less) next less) in
          ap is_lt (nat_list_cmp_total.antisymm b a ∙ ap ordering_reverse rises)

      all : (pid : List ℕ) (number : ℕ) → position (has_pid pid) places ≡ Some number → Contains order number
      all pid number is =
          let found = place_from_lookup (λ (key : Bor (List ℕ)). is_eq (slice_cmp nat_cmp pid key.now)) numbers.entries number (are.found pid ∙ is) in
          let at : slice_get order found.0 ≡ Some number =
          slice_get-map (λ (e : Bor (List ℕ) × ℕ). e.1) numbers.entries found.0 ∙ ap (option_map (λ (e : Bor (List ℕ) × ℕ). e.1)) found.2 in
          let within = slice_get_within order found.0 number at in
          (found.0, within, get_or_from_slice_get order found.0 number number at)

-- a number that the search found, or none
pub found-number : (places : List PidPlace) (order : List ℕ) (pid : List ℕ) (at : ℕ) → AreRanked places order → at < length order
    → slice_cmp nat_cmp (pid_at places (get_or order at 0)) pid ≡ Equal → position (has_pid pid) places ≡ Some (get_or order at 0)
found-number places order pid at are inside same =
    subst (λ t. position (has_pid t) places ≡ Some (get_or order at 0)) (same-text (pid_at places (get_or order at 0)) pid same) (are.known at 0 inside)

pub no-number : (places : List PidPlace) (order : List ℕ) (pid : List ℕ) (at : ℕ) → AreRanked places order
    → AllWithin (λ number. slice_cmp nat_cmp (pid_at places number) pid ≡ Less) order 0 at
    → AllWithin (λ number. slice_cmp nat_cmp (pid_at places number) pid ≡ Greater) order at (length order)
    → position (has_pid pid) places ≡ None
no-number places order pid at are before behind = by (position (has_pid pid) places) refl
  where
    wrong : (number : ℕ) → position (has_pid pid) places ≡ Some number → ⊥
    wrong number is =
        let found = position-holds (has_pid pid) places number is in
        let same : pid_at places number ≡ pid =
        ap (λ o. option_map_or (λ (place : PidPlace). place.pid.items) o []) found.1 ∙ sym ((bytes_eq-Decides pid found.0.pid.items).0 found.2) in
        let equal : slice_cmp nat_cmp (pid_at places number) pid ≡ Equal = ap (λ t. slice_cmp nat_cmp t pid) same ∙ text-itself pid in
        let there = are.all pid number is in
        sides there.0 there.1 there.2 equal (ltb there.0 at) refl
      where
        sides : (k : ℕ) → k < length order → get_or order k number ≡ number → slice_cmp nat_cmp (pid_at places number) pid ≡ Equal → (b : Bool) → ltb k at ≡ b → ⊥
        sides k inside here equal true e =
            let less = before k number (omega arith) (ltb-true k at e) in
            let clash : Less ≡ Equal = sym less ∙ ap (λ n. slice_cmp nat_cmp (pid_at places n) pid) here ∙ equal in cc
        sides k inside here equal false e =
            let more = behind k number (ltb-false k at e) inside in
            let clash : Greater ≡ Equal = sym more ∙ ap (λ n. slice_cmp nat_cmp (pid_at places n) pid) here ∙ equal in cc

    by : (o : Option ℕ) → position (has_pid pid) places ≡ o → position (has_pid pid) places ≡ None
    by None e = e
    by (Some number) e = absurd (wrong number e)

-- what a search by the order of pids says
abbrev Searches : List PidPlace → List ℕ → List ℕ → Result ℕ ℕ → Type 0
Searches places order pid r = IsBinarySearchResult (λ number. slice_cmp nat_cmp (pid_at places number) pid) order r

pub searched-ok : (places : List PidPlace) (order : List ℕ) (pid : List ℕ) (r : Result ℕ ℕ) (at : ℕ) → AreRanked places order → r ≡ Ok at
    → Searches places order pid r → IsSearchInRange r (length order) → position (has_pid pid) places ≡ Some (get_or order at 0)
searched-ok places order pid r at are is result range =
    found-number places order pid at are (subst (λ x. IsSearchInRange x (length order)) is range) ((subst (Searches places order pid) is result) 0)

pub searched-err : (places : List PidPlace) (order : List ℕ) (pid : List ℕ) (r : Result ℕ ℕ) (at : ℕ) → AreRanked places order → r ≡ Err at
    → Searches places order pid r → position (has_pid pid) places ≡ None
searched-err places order pid r at are is result =
    let point = (subst (Searches places order pid) is result) (are.rising pid) in
    no-number places order pid at are point.0 point.1
