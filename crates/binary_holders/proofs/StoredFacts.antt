-- The stored binaries are found one section after another.
use Rattle.std.proofs.Common.{◌≡◌, ◌≢◌, ℕ, ◌+◌, ◌<◌, ◌==◌, ⊎_elim, Bool, true, false, ◌||◌, List, [], ◌∷◌, ◌++◌, length, map, take, get_or, slice_get, Option, None, Some, if◌then◌else◌, refl, sym, ◌∙◌, ap, subst, arith, append-nil}
use Rattle.std.specs.Prelude.{All, is_some}
use Rattle.std.specs.BTreeMap.{BTreeMap, get}
use Rattle.std.specs.List.{cons_option, filter_map}
use Rattle.std.specs.Option.{option_map, option_to_list}
use Rattle.std.specs.Ordering.{nat_cmp, is_eq}
use Rattle.std.proofs.Math.Bool.{or_assoc, or_comm}
use Rattle.std.proofs.lemmas.Bool.{cases_eq, cases_lt, eq-eqb, ne_eqb}
use Rattle.std.proofs.lemmas.Bool.Decides.{nat_tests}
use Rattle.std.proofs.lemmas.List.{map_push, get_or_append_left, get_or_push, length_push, length-map}
use Rattle.std.proofs.lemmas.List.Elements.{All-push, All-from_get_or, filter_map-append}
use Rattle.std.proofs.lemmas.List.Folds.{list_any_at, list_any_none}
use Rattle.dump_io.specs.Laws.Lists.{take-at}
use Rattle.dump_io.specs.Laws.Options.{none-where}
use Rattle.dump_sections.specs.Bodies.{section_at}
use Rattle.dump_sections.specs.Index.{Contents, sections_in}
use Rattle.dump_sections.specs.Sections.{Section}
use Rattle.binary_refs.specs.StoredBinaries.{binary_number}
use Rattle.binary_holders.specs.declared.stored.Found.{Found}
use Rattle.binary_holders.specs.declared.stored.StoredAt.{StoredAt}
use Rattle.binary_holders.specs.StoredBinaries.{Stored, stored, stored_at, stored_binary, firsts, is_among}
use Rattle.binary_holders.specs.Inner.Finding.{AreFound, numbers_of, stored_of}
use Rattle.binary_holders.specs.Inner.Places.{ArePlaces, IsOnlyPlace}

-- ---- one binary more

abbrev numbers : List Stored → List ℕ
numbers binaries = map (λ (b : Stored). b.number) binaries

push-none : (seen : List ℕ) (y : Stored) (b : Bool) → (if b then firsts seen [] else y ∷ firsts (y.number ∷ seen) []) ≡ [] ++ (if b || false then [] else y ∷ [])
push-none seen y true = refl
push-none seen y false = refl

-- it counts where its number isn't there yet
firsts-push : (seen : List ℕ) (xs : List Stored) (y : Stored)
    → firsts seen (xs ++ y ∷ []) ≡ firsts seen xs ++ (if is_among seen y.number || is_among (numbers (firsts seen xs)) y.number then [] else y ∷ [])
firsts-push seen [] y = push-none seen y (is_among seen y.number)
firsts-push seen (x ∷ xs) y = by (is_among seen x.number) (firsts-push seen xs y) (firsts-push (x.number ∷ seen) xs y)
  where
    by : (b : Bool) → firsts seen (xs ++ y ∷ []) ≡ firsts seen xs ++ (if is_among seen y.number || is_among (numbers (firsts seen xs)) y.number then [] else y ∷ [])
        → firsts (x.number ∷ seen) (xs ++ y ∷ [])
        ≡ firsts (x.number ∷ seen) xs ++ (if is_among (x.number ∷ seen) y.number || is_among (numbers (firsts (x.number ∷ seen) xs)) y.number then [] else y ∷ [])
        → (if b then firsts seen (xs ++ y ∷ []) else x ∷ firsts (x.number ∷ seen) (xs ++ y ∷ []))
        ≡ (if b then firsts seen xs else x ∷ firsts (x.number ∷ seen) xs)
        ++ (if is_among seen y.number || is_among (numbers (if b then firsts seen xs else x ∷ firsts (x.number ∷ seen) xs)) y.number then [] else y ∷ [])
    by true here later = here
    by false here later =
        ap (λ l. x ∷ l) later
        ∙ ap (λ b. x ∷ (firsts (x.number ∷ seen) xs ++ (if b then [] else y ∷ [])))
        (ap (λ b. b || is_among (numbers (firsts (x.number ∷ seen) xs)) y.number) (or_comm (x.number == y.number) (is_among seen y.number))
        ∙ or_assoc (is_among seen y.number) (x.number == y.number) (is_among (numbers (firsts (x.number ∷ seen) xs)) y.number))

pub stored-push : (before : List Section) (s : Section)
    → stored (before ++ s ∷ []) ≡ firsts [] (filter_map stored_binary before ++ option_to_list (stored_binary s))
stored-push before s =
    ap (firsts []) (filter_map-append stored_binary before (s ∷ []) ∙ ap (λ l. filter_map stored_binary before ++ l) (by (stored_binary s)))
  where
    by : (o : Option Stored) → cons_option o [] ≡ option_to_list o
    by None = refl
    by (Some b) = refl

-- a section that is none
stored-passed : (before : List Section) (s : Section) → binary_number s ≡ None → stored (before ++ s ∷ []) ≡ stored before
stored-passed before s none =
    stored-push before s ∙ ap (λ o. firsts [] (filter_map stored_binary before ++ option_to_list (option_map (stored_at s) o))) none ∙ ap (firsts []) (append-nil (filter_map stored_binary before))

stored-more : (before : List Section) (s : Section) (n : ℕ) (b : Bool) → binary_number s ≡ Some n → is_among (numbers (stored before)) n ≡ b
    → stored (before ++ s ∷ []) ≡ stored before ++ (if b then [] else stored_at s n ∷ [])
stored-more before s n b some among =
    stored-push before s
    ∙ ap (λ o. firsts [] (filter_map stored_binary before ++ option_to_list (option_map (stored_at s) o))) some
    ∙ firsts-push [] (filter_map stored_binary before) (stored_at s n)
    ∙ ap (λ t. stored before ++ (if t then [] else stored_at s n ∷ [])) among

-- ---- what is known of the places

numbers-as : (index : Contents) (binaries : List StoredAt) → numbers (map (stored_of index) binaries) ≡ numbers_of binaries
numbers-as index [] = refl
numbers-as index (b ∷ binaries) = ap (λ l. b.number ∷ l) (numbers-as index binaries)

among-place : (ns : List ℕ) (n : ℕ) (o : Option ℕ) → IsOnlyPlace ns n o → is_among ns n ≡ is_some o
among-place ns n None none = list_any_none (λ m. m == n) ns (All-from_get_or (λ m. (m == n) ≡ false) ns 0 (λ k inside. ne_eqb (get_or ns k 0) n (none k inside)))
among-place ns n (Some p) only = list_any_at (λ m. m == n) ns p 0 only.0 (eq-eqb (get_or ns p 0) n only.1)

among-found : (index : Contents) (sections : List Section) (found : Found) (n : ℕ) → AreFound index sections found → is_among (numbers (stored sections)) n ≡ is_some (get nat_cmp found.places n)
among-found index sections found n are =
    ap (λ l. is_among (numbers l) n) (sym are.are) ∙ ap (λ l. is_among l n) (numbers-as index found.binaries.items)
    ∙ among-place (numbers_of found.binaries.items) n (get nat_cmp found.places n) (are.places.only n)

apart : (n q : ℕ) → n ≢ q → is_eq (nat_cmp n q) ≡ false
apart n q other = grind (arith, nat_tests)

only-more : (ns : List ℕ) (n m : ℕ) (o : Option ℕ) → n ≢ m → IsOnlyPlace ns m o → IsOnlyPlace (ns ++ n ∷ []) m o
only-more ns n m None other none = λ k inside is. ⊎_elim
    (λ less. none k less (sym (get_or_append_left ns (n ∷ []) 0 k less) ∙ is))
    (λ more. let last : length ns ≡ k = omega (arith, inside, more, length_push ns n) in other (sym (get_or_push ns n 0 k last) ∙ is))
    (cases_lt k (length ns))
only-more ns n m (Some p) other only = (
  omega (arith, only.0, length_push ns n),
  get_or_append_left ns (n ∷ []) 0 p only.0 ∙ only.1,
  λ k inside is. ⊎_elim
      (λ less. only.2 k less (sym (get_or_append_left ns (n ∷ []) 0 k less) ∙ is))
      (λ more. absurd (let last : length ns ≡ k = omega (arith, inside, more, length_push ns n) in other (sym (get_or_push ns n 0 k last) ∙ is)))
      (cases_lt k (length ns)),
)

only-new : (ns : List ℕ) (n : ℕ) → IsOnlyPlace ns n None → IsOnlyPlace (ns ++ n ∷ []) n (Some (length ns))
only-new ns n none = (
  omega (arith, length_push ns n),
  get_or_push ns n 0 (length ns) refl,
  λ k inside is. ⊎_elim
      (λ less. absurd (none k less (sym (get_or_append_left ns (n ∷ []) 0 k less) ∙ is)))
      (λ more. omega (arith, inside, more, length_push ns n))
      (cases_lt k (length ns)),
)

pub places-new : (places after : BTreeMap ℕ ℕ) (ns : List ℕ) (n : ℕ) → ArePlaces places ns → get nat_cmp places n ≡ None → get nat_cmp after n ≡ Some (length ns)
    → ((q : ℕ) → is_eq (nat_cmp n q) ≡ false → get nat_cmp after q ≡ get nat_cmp places q) → ArePlaces after (ns ++ n ∷ [])
places-new places after ns n are none here others = record {
  only = λ m. ⊎_elim
      (λ same. subst (λ q. IsOnlyPlace (ns ++ n ∷ []) q (get nat_cmp after q)) same
      (subst (IsOnlyPlace (ns ++ n ∷ []) n) (sym here) (only-new ns n (subst (IsOnlyPlace ns n) none (are.only n)))))
      (λ other. subst (IsOnlyPlace (ns ++ n ∷ []) m) (sym (others m (apart n m other))) (only-more ns n m (get nat_cmp places m) other (are.only m)))
      (cases_eq n m);
}

-- ---- one section more

module _ (index : Contents) (i : ℕ) (at : slice_get (sections_in index) i ≡ Some (section_at index i)) (found : Found) (before : AreFound index (take i (sections_in index)) found) where
  abbrev s : Section
  s = section_at index i

  same-found : stored (take (i + 1) (sections_in index)) ≡ stored (take i (sections_in index)) → AreFound index (take (i + 1) (sections_in index)) found
  same-found same = record { are = before.are ∙ sym same; within = before.within; places = before.places }

  pub found-passed : binary_number s ≡ None → AreFound index (take (i + 1) (sections_in index)) found
  found-passed none = same-found (ap stored (take-at (sections_in index) i s at) ∙ stored-passed (take i (sections_in index)) s none)

  pub found-again : (n : ℕ) → binary_number s ≡ Some n → is_some (get nat_cmp found.places n) ≡ true → AreFound index (take (i + 1) (sections_in index)) found
  found-again n some there =
      same-found (ap stored (take-at (sections_in index) i s at)
      ∙ stored-more (take i (sections_in index)) s n true some (among-found index (take i (sections_in index)) found n before ∙ there)
      ∙ append-nil (stored (take i (sections_in index))))

  pub found-new : (n : ℕ) (after : Found) → binary_number s ≡ Some n → is_some (get nat_cmp found.places n) ≡ false → i < length index.headers
      → after.binaries.items ≡ found.binaries.items ++ (record { number = n; section = i }) ∷ []
      → get nat_cmp after.places n ≡ Some (length found.binaries.items) → ((q : ℕ) → is_eq (nat_cmp n q) ≡ false → get nat_cmp after.places q ≡ get nat_cmp found.places q)
      → AreFound index (take (i + 1) (sections_in index)) after
  found-new n after some gone inside items here others =
      let one : StoredAt = record { number = n; section = i } in
      record {
        are = ap (map (stored_of index)) items ∙ map_push (stored_of index) found.binaries.items one ∙ ap (λ l. l ++ stored_at s n ∷ []) before.are
            ∙ sym (ap stored (take-at (sections_in index) i s at)
            ∙ stored-more (take i (sections_in index)) s n false some (among-found index (take i (sections_in index)) found n before ∙ gone));
        within = subst (All (λ (b : StoredAt). b.section < length index.headers)) (sym items) (All-push (λ (b : StoredAt). b.section < length index.headers) found.binaries.items one before.within inside);
        places = subst (ArePlaces after.places) (sym (ap numbers_of items ∙ map_push (λ (b : StoredAt). b.number) found.binaries.items one))
            (places-new found.places after.places (numbers_of found.binaries.items) n before.places (none-where (get nat_cmp found.places n) gone)
            (here ∙ ap Some (sym (length-map found.binaries.items (λ (b : StoredAt). b.number)))) others);
      }
