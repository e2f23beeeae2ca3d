-- Resolving references in place.
use Rattle.std.proofs.Common.{◌≡◌, ℕ, zero, suc, [], ◌∷◌, ◌+◌, ◌<◌, ◌≤◌, ◌⊎◌, ⊎_elim, inl, inr, List, ◌++◌, length, get_or, set, map, Option, None, Some, refl, sym, ◌∙◌, ap, subst, arith, below_more}
use Rattle.std.specs.Prelude.{slice_get, All, Contains}
use Rattle.std.specs.Option.{option_map_or}
use Rattle.std.specs.List.Sorted.{IsPermutation}
use Rattle.std.proofs.lemmas.List.Sorted.{All-permutation, Contains-permutation}
use Rattle.std.proofs.lemmas.List.Elements.{All-push, Contains-push, Contains-append_left}
use Rattle.std.proofs.lemmas.Option.{get_or_from_slice_get, slice_get_within, slice_get-get_or}
use Rattle.std.proofs.lemmas.Bool.{cases_eq}
use Rattle.std.proofs.lemmas.Grind.{get_or-set_at}
use Rattle.std.proofs.lemmas.List.{get_or_default, get_or-set_other, get_or-map, length-set, length-map, same_lists, append-nil}
use Rattle.cell_records.specs.declared.cells.Slot.{Slot}
use Rattle.cell_records.specs.declared.cells.Slot.TheVariants as slot
use Rattle.cell_records.specs.Order.{number_with, AreRanked}
use Rattle.cell_records.specs.Resolving.{settled}
use Rattle.cell_records.specs.Inner.References.{reference_of, found_at, AreReferences}

-- those among the first slots
pub record AreFound (slots : List Slot) (references : List (ℕ × ℕ)) (upto : ℕ) : Type 0 where
  pub sound : All (λ (r : ℕ × ℕ). slice_get slots r.1 ≡ Some (slot.Gone r.0)) references
  pub complete : (i address : ℕ) → i < upto → slice_get slots i ≡ Some (slot.Gone address) → Contains references (address, i)

-- each slot is as it was or settled, and those of the first references are settled
pub record AreResolving (xs : List ℕ) (olds slots : List Slot) (references : List (ℕ × ℕ)) (upto : ℕ) : Type 0 where
  pub count : length slots ≡ length olds
  pub each : (i : ℕ) (d : Slot) → i < length olds → (get_or slots i d ≡ get_or olds i d) ⊎ (get_or slots i d ≡ settled xs (get_or olds i d))
  pub over : (k : ℕ) (d : Slot) → k < upto → get_or slots (get_or references k (0, 0)).1 d ≡ settled xs (get_or olds (get_or references k (0, 0)).1 d)

-- the first references are settled, of whichever addresses these are the pairs
abbrev pub AreResolvingIn : List (ℕ × ℕ) → List Slot → List Slot → List (ℕ × ℕ) → ℕ → Type 0
AreResolvingIn pairs olds slots references k = (xs : List ℕ) → AreRanked xs pairs → AreResolving xs olds slots references k

-- ---- the references are found

abbrev IsOf : List Slot → ℕ × ℕ → Type 0
IsOf slots r = slice_get slots r.1 ≡ Some (slot.Gone r.0)

sound-more : (slots : List Slot) (references : List (ℕ × ℕ)) (i : ℕ) (s : Slot) → slice_get slots i ≡ Some s → All (λ (r : ℕ × ℕ). IsOf slots r) references
    → All (λ (r : ℕ × ℕ). IsOf slots r) (references ++ reference_of s i)
sound-more slots references i (slot.Imm span) is all = subst (All (λ (r : ℕ × ℕ). IsOf slots r)) (sym (append-nil references)) all
sound-more slots references i (slot.Cell ix) is all = subst (All (λ (r : ℕ × ℕ). IsOf slots r)) (sym (append-nil references)) all
sound-more slots references i (slot.Gone address) is all = All-push (λ (r : ℕ × ℕ). IsOf slots r) references (address, i) all is

pub found-more : (slots : List Slot) (references more : List (ℕ × ℕ)) (i : ℕ) (d : Slot) → i < length slots → AreFound slots references i
    → more ≡ references ++ reference_of (get_or slots i d) i → AreFound slots more (i + 1)
found-more slots references more i d inside found is = subst (λ l. AreFound slots l (i + 1)) (sym is) (record {
  sound = sound-more slots references i (get_or slots i d) (slice_get-get_or slots i d inside) found.sound;
  complete = λ j address before at. below_more (λ k. (a : ℕ) → slice_get slots k ≡ Some (slot.Gone a) → Contains (references ++ reference_of (get_or slots i d) i) (a, k)) i
      (λ k earlier a stands. Contains-append_left references (reference_of (get_or slots i d) i) (a, k) (found.complete k a earlier stands))
      (λ a stands. here a (get_or_from_slice_get slots i (slot.Gone a) d stands)) j before address at;
})
  where
    here : (a : ℕ) → get_or slots i d ≡ slot.Gone a → Contains (references ++ reference_of (get_or slots i d) i) (a, i)
    here a same = subst (λ s. Contains (references ++ reference_of s i) (a, i)) (sym same) (Contains-push references (a, i))

pub found-all : (slots : List Slot) (references : List (ℕ × ℕ)) (i : ℕ) → i ≡ length slots → AreFound slots references i → AreReferences slots references
found-all slots references i all found = record {
  sound = found.sound;
  complete = λ j address at. found.complete j address (let inside = slice_get_within slots j (slot.Gone address) at in omega (arith, inside, all)) at;
}

-- ---- each slot is settled

-- what is found of a reference is that it is settled
found-settled : (xs : List ℕ) (olds : List Slot) (address i : ℕ) (d : Slot) (number : Option ℕ) → slice_get olds i ≡ Some (slot.Gone address) → number ≡ number_with xs address
    → option_map_or (λ n. slot.Cell (record { 0 = n })) number (slot.Gone address) ≡ settled xs (get_or olds i d)
found-settled xs olds address i d number is found = ap (λ o. option_map_or (λ n. slot.Cell (record { 0 = n })) o (slot.Gone address)) found ∙ ap (settled xs) (sym (get_or_from_slice_get olds i (slot.Gone address) d is))

-- a further reference is settled, or stays as it was where no cell has its address
module _ (xs : List ℕ) (olds slots : List Slot) (references : List (ℕ × ℕ)) (k : ℕ) where
  abbrev i : ℕ
  i = (get_or references k (0, 0)).1

  abbrev address : ℕ
  address = (get_or references k (0, 0)).0

  pub resolving-more : (number : Option ℕ) → k < length references → AreReferences olds references → AreResolving xs olds slots references k → number ≡ number_with xs address
      → AreResolving xs olds (found_at slots i number) references (k + 1)
  resolving-more None listed are before found = record {
    count = before.count;
    each = before.each;
    over = λ j e. below_more (λ j. get_or slots (get_or references j (0, 0)).1 e ≡ settled xs (get_or olds (get_or references j (0, 0)).1 e)) k
        (λ j earlier. before.over j e earlier) (stays e (before.each i e (slice_get_within olds i (slot.Gone address) is))) j;
  }
    where
      is : slice_get olds i ≡ Some (slot.Gone address)
      is = are.sound k (0, 0) listed

      stays : (e : Slot) → (get_or slots i e ≡ get_or olds i e) ⊎ (get_or slots i e ≡ settled xs (get_or olds i e)) → get_or slots i e ≡ settled xs (get_or olds i e)
      stays e (inl same) = same ∙ get_or_from_slice_get olds i (slot.Gone address) e is ∙ found-settled xs olds address i e None is found
      stays e (inr over) = over
  resolving-more (Some number) listed are before found = record {
    count = length-set slots i now ∙ before.count;
    each = λ j e within. ⊎_elim (λ same. inr (here j e same)) (λ other. let was = get_or-set_other slots i j now e other in rw was (before.each j e within)) (cases_eq j i);
    over = λ j e. below_more (λ j. get_or (set slots i now) (get_or references j (0, 0)).1 e ≡ settled xs (get_or olds (get_or references j (0, 0)).1 e)) k
        (λ j earlier. ⊎_elim (λ same. here (get_or references j (0, 0)).1 e same)
        (λ other. get_or-set_other slots i (get_or references j (0, 0)).1 now e other ∙ before.over j e earlier) (cases_eq (get_or references j (0, 0)).1 i)) (here i e refl) j;
  }
    where
      now : Slot
      now = slot.Cell (record { 0 = number })

      is : slice_get olds i ≡ Some (slot.Gone address)
      is = are.sound k (0, 0) listed

      here : (j : ℕ) (e : Slot) → j ≡ i → get_or (set slots i now) j e ≡ settled xs (get_or olds j e)
      here j e same =
          get_or-set_at slots i j now e same (let inside = slice_get_within olds i (slot.Gone address) is in omega (arith, inside, before.count))
          ∙ found-settled xs olds address i e (Some number) is found ∙ ap (λ n. settled xs (get_or olds n e)) (sym same)

either : (s old now : Slot) → now ≡ old → (s ≡ old) ⊎ (s ≡ now) → s ≡ now
either s old now same (inl was) = was ∙ sym same
either s old now same (inr over) = over

pub resolving-all : (xs : List ℕ) (olds slots : List Slot) (references : List (ℕ × ℕ)) (k : ℕ) → AreReferences olds references → length references ≤ k
    → AreResolving xs olds slots references k → slots ≡ map (settled xs) olds
resolving-all xs olds slots references k are all resolving =
    same_lists slots (map (settled xs) olds) (resolving.count ∙ sym (length-map olds (settled xs)))
    (λ j d inside. let listed : j < length olds = omega (arith, inside, resolving.count) in
    at j d listed (get_or olds j d) refl ∙ sym (get_or-map (settled xs) olds j d d listed))
  where
    at : (j : ℕ) (d : Slot) → j < length olds → (s : Slot) → get_or olds j d ≡ s → get_or slots j d ≡ settled xs (get_or olds j d)
    at j d listed (slot.Imm span) is = either _ _ _ (rw is refl) (resolving.each j d listed)
    at j d listed (slot.Cell ix) is = either _ _ _ (rw is refl) (resolving.each j d listed)
    at j d listed (slot.Gone address) is =
        let there = are.complete j address (slice_get-get_or olds j d listed ∙ ap Some is) in
        let place : (get_or references there.0 (0, 0)).1 ≡ j =
        ap (λ (r : ℕ × ℕ). r.1) (get_or_default references there.0 (0, 0) (address, j) there.1 ∙ there.2) in
        subst (λ i. get_or slots i d ≡ settled xs (get_or olds i d)) place (resolving.over there.0 d (omega (arith, there.1, all)))

-- in another order
pub references-moved : (slots : List Slot) (references sorted : List (ℕ × ℕ)) → AreReferences slots references → IsPermutation references sorted → AreReferences slots sorted
references-moved slots references sorted are moved = record {
  sound = All-permutation (λ (r : ℕ × ℕ). IsOf slots r) references sorted moved are.sound;
  complete = λ i address at. Contains-permutation references sorted (address, i) moved (are.complete i address at);
}

-- ---- slots that are settled before the others

-- a cell that was found for a reference
pub found-half : (xs : List ℕ) (address n : ℕ) → number_with xs address ≡ Some n → settled xs (slot.Cell (record { 0 = n })) ≡ settled xs (slot.Gone address)
found-half xs address n found = sym (ap (λ o. option_map_or (λ m. slot.Cell (record { 0 = m })) o (slot.Gone address)) found)

-- one more slot that is as it was or settled
pub half-more : (f : Slot → Slot) (xs : List Slot) (i : ℕ) (d s : Slot) → i < length xs → f s ≡ f (get_or xs i d) → map f (set xs i s) ≡ map f xs
half-more f [] i d s inside same = absurd (omega (arith, inside))
half-more f (x ∷ xs) zero d s inside same = ap (λ y. y ∷ map f xs) same
half-more f (x ∷ xs) (suc i) d s inside same = ap (λ l. f x ∷ l) (half-more f xs i d s (omega (arith, inside)) same)
