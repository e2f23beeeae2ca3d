-- Resolving elements, near ones and far ones.
use Rattle.std.proofs.Common.{◌≡◌, ℕ, ◌+◌, ◌<◌, ◌≤◌, ◌==◌, ◌⊎◌, ⊎_elim, inl, inr, Bool, true, false, List, [], ◌∷◌, ◌++◌, length, get_or, set, drop, map, Option, Some, refl, sym, ◌∙◌, ap, subst, arith, add-one, drop-cons, below_more}
use Rattle.std.specs.Prelude.{slice_get}
use Rattle.std.specs.List.Sorted.{IsPermutation}
use Rattle.std.proofs.lemmas.Bool.{cases_eq}
use Rattle.std.proofs.lemmas.List.{get_or_default, get_or-map, get_or-set_other, get_or-set_same, length-map, length-set, same_lists}
use Rattle.std.proofs.lemmas.List.Elements.{All-push, Contains-push, Contains-append_left}
use Rattle.std.proofs.lemmas.List.Sorted.{All-permutation, Contains-permutation}
use Rattle.std.proofs.lemmas.Option.{get_or_from_slice_get, slice_get_within, slice_get-get_or}
use Rattle.cell_records.specs.declared.cells.Kind.{Kind}
use Rattle.cell_records.specs.Order.{number_with}
use Rattle.heap_skeleton.specs.declared.far.Far.{Far}
use Rattle.heap_graph.specs.declared.leads.Lead.{Lead}
use Rattle.heap_graph.specs.declared.leads.Lead.TheVariants as lead
use Rattle.heap_graph.specs.Leads.{mark, marks, nowhere, reference, references}
use Rattle.heap_skeleton.specs.Inner.Targets.{lead_to, number_for, resolved}
use Rattle.heap_skeleton.specs.Inner.Resolving.{far_with, lead_at, no_far, number_at, AreFar, AreNearResolved, HasPlace, IsResolving, IsSettling}

-- ---- one element

-- what is found of an element's address tells its number
pub found-resolved : (xs : List ℕ) (kinds : List (Option Kind)) (to_binary : Bool) (address : ℕ) (found : Option ℕ) → found ≡ number_with xs address
    → number_for kinds to_binary found ≡ resolved xs kinds (lead_to to_binary address)
found-resolved xs kinds false address found is = ap (number_for kinds false) is
found-resolved xs kinds true address found is = ap (number_for kinds true) is

-- an element whose mark says that it leads nowhere
nowhere-is : (xs : List ℕ) (kinds : List (Option Kind)) (l : Lead) → mark l ≡ nowhere → (resolved xs kinds l ≡ mark l) × (reference l ≡ [])
nowhere-is xs kinds lead.Nowhere is = (refl, refl)
nowhere-is xs kinds (lead.Cell address) is = absurd (omega (arith, is))
nowhere-is xs kinds (lead.Binary address) is = absurd (omega (arith, is))

-- an element whose mark says that it has an address
some-address : (l : Lead) (marked : ℕ) (later left : List ℕ) → (marked ≡ nowhere → ⊥) → mark l ≡ marked → left ≡ reference l ++ later
    → (address : ℕ) × (l ≡ lead_to (marked == 1) address) × (left ≡ address ∷ later)
some-address lead.Nowhere marked later left other is left_is = absurd (other (sym is))
some-address (lead.Cell address) marked later left other is left_is = (address, ap (λ m. lead_to (m == 1) address) is, left_is)
some-address (lead.Binary address) marked later left other is left_is = (address, ap (λ m. lead_to (m == 1) address) is, left_is)

head-is : (x y : ℕ) (xs ys : List ℕ) → x ∷ xs ≡ y ∷ ys → (x ≡ y) × (xs ≡ ys)
head-is x y xs ys is = (ap (λ l. get_or l 0 x) is, ap (drop 1) is)

-- ---- the next element

module _ (xs : List ℕ) (kinds : List (Option Kind)) (leads : List Lead) (i : ℕ) (numbers left : List ℕ) (far : Far)
    (inside : i < length numbers) (before : IsResolving xs kinds leads i numbers left far) where
  abbrev next : Lead
  next = lead_at leads i

  within : i < length leads
  within = let count = before.near.count in omega (arith, inside, count)

  -- the mark that was read
  mark-read : (d : ℕ) → get_or numbers i d ≡ mark next
  mark-read d = get_or_default numbers i d 0 inside ∙ before.marks_are i (omega arith) within

  left-next : left ≡ reference next ++ references (drop (i + 1) leads)
  left-next = before.left_is ∙ ap references (drop-cons leads i lead.Nowhere within ∙ ap (λ n. next ∷ drop n leads) (sym (add-one i)))

  -- the address that was read
  pub address-read : (marked address : ℕ) (behind : List ℕ) → get_or numbers i 0 ≡ marked → (marked ≡ nowhere → ⊥) → left ≡ address ∷ behind
      → (lead_at leads i ≡ lead_to (marked == 1) address) × (behind ≡ references (drop (i + 1) leads))
  address-read marked address behind read other first =
      let some = some-address next marked (references (drop (i + 1) leads)) left other (sym (mark-read 0) ∙ read) left-next in
      let same = head-is address some.0 behind (references (drop (i + 1) leads)) (sym first ∙ some.2) in
      (some.1 ∙ ap (lead_to (marked == 1)) (sym same.0), same.1)

  -- there is an address left for it
  pub resolving-some : (marked : ℕ) → get_or numbers i 0 ≡ marked → (marked ≡ nowhere → ⊥) → length left ≡ 0 → ⊥
  resolving-some marked read other none =
      let some = some-address next marked (references (drop (i + 1) leads)) left other (sym (mark-read 0) ∙ read) left-next in
      omega (arith, none, ap length some.2)

  pub resolving-skip : (d : ℕ) → get_or numbers i d ≡ nowhere → IsResolving xs kinds leads (i + 1) numbers left far
  resolving-skip d read =
      let none = nowhere-is xs kinds next (sym (mark-read d) ∙ read) in
      record {
        near = record {
          count = before.near.count;
          cells = before.near.cells;
          binaries = before.near.binaries;
          each = λ j. below_more (λ j. (number_at numbers j ≡ resolved xs kinds (lead_at leads j)) ⊎ HasPlace far.cells j ⊎ HasPlace far.binaries j) i
              (λ j earlier. before.near.each j earlier) (inl (mark-read 0 ∙ sym none.0)) j;
        };
        marks_are = λ j up listed. before.marks_are j (omega (arith, up)) listed;
        left_is = left-next ∙ ap (λ l. l ++ references (drop (i + 1) leads)) none.1;
      }

  pub resolving-set : (number : ℕ) (behind : List ℕ) → number ≡ resolved xs kinds (lead_at leads i) → behind ≡ references (drop (i + 1) leads)
      → IsResolving xs kinds leads (i + 1) (set numbers i number) behind far
  resolving-set number behind is behind_is = record {
    near = record {
      count = length-set numbers i number ∙ before.near.count;
      cells = before.near.cells;
      binaries = before.near.binaries;
      each = λ j. below_more (λ j. (number_at (set numbers i number) j ≡ resolved xs kinds (lead_at leads j)) ⊎ HasPlace far.cells j ⊎ HasPlace far.binaries j) i
          (λ j earlier. let was = get_or-set_other numbers i j number 0 (omega (arith, earlier)) in rw was (before.near.each j earlier))
          (inl (get_or-set_same numbers i number 0 inside ∙ is)) j;
    };
    marks_are = λ j up listed. get_or-set_other numbers i j number 0 (omega (arith, up)) ∙ before.marks_are j (omega (arith, up)) listed;
    left_is = behind_is;
  }

  pub resolving-far : (to_binary : Bool) (address : ℕ) (behind : List ℕ) → lead_at leads i ≡ lead_to to_binary address → behind ≡ references (drop (i + 1) leads)
      → IsResolving xs kinds leads (i + 1) numbers behind (far_with far to_binary (address, i))
  resolving-far to_binary address behind is behind_is = record {
    near = one-far to_binary is;
    marks_are = λ j up listed. before.marks_are j (omega (arith, up)) listed;
    left_is = behind_is;
  }
    where
      there : (b : Bool) → lead_at leads i ≡ lead_to b address → slice_get leads i ≡ Some (lead_to b address)
      there b is = slice_get-get_or leads i lead.Nowhere within ∙ ap Some is

      one-far : (b : Bool) → lead_at leads i ≡ lead_to b address → AreNearResolved xs kinds leads (i + 1) numbers (far_with far b (address, i))
      one-far false is = record {
        count = before.near.count;
        cells = record { each = All-push (λ (pair : ℕ × ℕ). slice_get leads pair.1 ≡ Some (lead_to false pair.0)) far.cells (address, i) before.near.cells.each (there false is) };
        binaries = before.near.binaries;
        each = λ j. below_more (λ j. (number_at numbers j ≡ resolved xs kinds (lead_at leads j)) ⊎ HasPlace (far.cells ++ (address, i) ∷ []) j ⊎ HasPlace far.binaries j) i
            (λ j earlier. ⊎_elim inl (λ later. inr (⊎_elim (λ has. inl (has.0, Contains-append_left far.cells ((address, i) ∷ []) (has.0, j) has.1)) inr later)) (before.near.each j earlier))
            (inr (inl (address, Contains-push far.cells (address, i)))) j;
      }
      one-far true is = record {
        count = before.near.count;
        cells = before.near.cells;
        binaries = record { each = All-push (λ (pair : ℕ × ℕ). slice_get leads pair.1 ≡ Some (lead_to true pair.0)) far.binaries (address, i) before.near.binaries.each (there true is) };
        each = λ j. below_more (λ j. (number_at numbers j ≡ resolved xs kinds (lead_at leads j)) ⊎ HasPlace far.cells j ⊎ HasPlace (far.binaries ++ (address, i) ∷ []) j) i
            (λ j earlier. ⊎_elim inl (λ later. inr (⊎_elim inl (λ has. inr (has.0, Contains-append_left far.binaries ((address, i) ∷ []) (has.0, j) has.1)) later)) (before.near.each j earlier))
            (inr (inr (address, Contains-push far.binaries (address, i)))) j;
      }

-- behind the last element
pub resolving-all : (xs : List ℕ) (kinds : List (Option Kind)) (leads : List Lead) (i : ℕ) (numbers left : List ℕ) (far : Far) → length numbers ≤ i → IsResolving xs kinds leads i numbers left far
    → AreNearResolved xs kinds leads (length leads) numbers far
resolving-all xs kinds leads i numbers left far past resolving = record {
  count = resolving.near.count;
  cells = resolving.near.cells;
  binaries = resolving.near.binaries;
  each = λ j listed. resolving.near.each j (let count = resolving.near.count in omega (arith, past, listed, count));
}

-- before the first element
pub resolving-none : (xs : List ℕ) (kinds : List (Option Kind)) (leads : List Lead) (numbers left : List ℕ) (far : Far) → numbers ≡ marks leads → left ≡ references leads → far ≡ no_far
    → IsResolving xs kinds leads 0 numbers left far
resolving-none xs kinds leads numbers left far are left_is none = subst (λ f. IsResolving xs kinds leads 0 numbers left f) (sym none) (record {
  near = record {
    count = ap length are ∙ length-map leads mark;
    cells = record { each = λ k d listed. absurd (omega (arith, listed)) };
    binaries = record { each = λ k d listed. absurd (omega (arith, listed)) };
    each = λ j listed. absurd (omega (arith, listed));
  };
  marks_are = λ j up listed. ap (λ l. get_or l j 0) are ∙ get_or-map mark leads j lead.Nowhere 0 listed;
  left_is = left_is;
})

-- ---- elements that are far

-- before the first of them
pub settling-none : (xs : List ℕ) (kinds : List (Option Kind)) (leads : List Lead) (far : List (ℕ × ℕ)) (numbers : List ℕ) → IsSettling xs kinds leads far numbers numbers 0
settling-none xs kinds leads far numbers = record { each = λ j listed. inl refl; over = λ k listed. absurd (omega (arith, listed)) }

-- one more is resolved
module _ (xs : List ℕ) (kinds : List (Option Kind)) (leads : List Lead) (to_binary : Bool) (far : List (ℕ × ℕ)) (old new : List ℕ) (k : ℕ) where
  abbrev place : ℕ
  place = (get_or far k (0, 0)).1

  abbrev address : ℕ
  address = (get_or far k (0, 0)).0

  pub settling-more : (found : Option ℕ) → k < length far → AreFar leads to_binary far → length new ≡ length leads → found ≡ number_with xs address
      → IsSettling xs kinds leads far old new k → IsSettling xs kinds leads far old (set new place (number_for kinds to_binary found)) (k + 1)
  settling-more found listed are count found_is before = record {
    each = λ j within. ⊎_elim (λ same. inr (here j same)) (λ other. let was = get_or-set_other new place j now 0 other in rw was (before.each j within)) (cases_eq j place);
    over = λ n. below_more (λ n. number_at (set new place now) (get_or far n (0, 0)).1 ≡ resolved xs kinds (lead_at leads (get_or far n (0, 0)).1)) k
        (λ n earlier. ⊎_elim (λ same. here (get_or far n (0, 0)).1 same)
        (λ other. get_or-set_other new place (get_or far n (0, 0)).1 now 0 other ∙ before.over n earlier) (cases_eq (get_or far n (0, 0)).1 place)) (here place refl) n;
  }
    where
      now : ℕ
      now = number_for kinds to_binary found

      is : slice_get leads place ≡ Some (lead_to to_binary address)
      is = are.each k (0, 0) listed

      inside : place < length new
      inside = let there = slice_get_within leads place (lead_to to_binary address) is in omega (arith, there, count)

      here : (j : ℕ) → j ≡ place → number_at (set new place now) j ≡ resolved xs kinds (lead_at leads j)
      here j same = subst (λ n. number_at (set new place now) n ≡ resolved xs kinds (lead_at leads n)) (sym same)
          (get_or-set_same new place now 0 inside ∙ found-resolved xs kinds to_binary address found found_is
          ∙ ap (resolved xs kinds) (sym (get_or_from_slice_get leads place (lead_to to_binary address) lead.Nowhere is)))

-- in another order
pub far-moved : (leads : List Lead) (to_binary : Bool) (far sorted : List (ℕ × ℕ)) → AreFar leads to_binary far → IsPermutation far sorted → AreFar leads to_binary sorted
far-moved leads to_binary far sorted are moved = record { each = All-permutation (λ (pair : ℕ × ℕ). slice_get leads pair.1 ≡ Some (lead_to to_binary pair.0)) far sorted moved are.each }

-- once the far elements are settled, all are
pub all-resolved : (xs : List ℕ) (kinds : List (Option Kind)) (leads : List Lead) (far : Far) (cells binaries : List (ℕ × ℕ)) (numbers settled all : List ℕ)
    → AreNearResolved xs kinds leads (length leads) numbers far → IsPermutation far.cells cells → IsPermutation far.binaries binaries
    → IsSettling xs kinds leads cells numbers settled (length cells) → IsSettling xs kinds leads binaries settled all (length binaries)
    → length all ≡ length leads → all ≡ map (resolved xs kinds) leads
all-resolved xs kinds leads far cells binaries numbers settled all near cells_moved binaries_moved first second count =
    same_lists all (map (resolved xs kinds) leads) (count ∙ sym (length-map leads (resolved xs kinds)))
    (λ j d inside. let listed : j < length leads = omega (arith, inside, count) in
    get_or_default all j d 0 inside ∙ at j listed ∙ sym (get_or-map (resolved xs kinds) leads j lead.Nowhere d listed))
  where
    target : ℕ → ℕ
    target j = resolved xs kinds (lead_at leads j)

    -- what was resolved before stays so
    stays : (old new : List ℕ) (j : ℕ) → number_at old j ≡ target j → (number_at new j ≡ number_at old j) ⊎ (number_at new j ≡ target j) → number_at new j ≡ target j
    stays old new j is (inl same) = same ∙ is
    stays old new j is (inr over) = over

    there : (far sorted : List (ℕ × ℕ)) (old new : List ℕ) (j : ℕ) → IsPermutation far sorted → IsSettling xs kinds leads sorted old new (length sorted) → HasPlace far j → number_at new j ≡ target j
    there far sorted old new j moved settling has =
        let found = Contains-permutation far sorted (has.0, j) moved has.1 in
        let place : (get_or sorted found.0 (0, 0)).1 ≡ j = ap (λ (pair : ℕ × ℕ). pair.1) (get_or_default sorted found.0 (0, 0) (has.0, j) found.1 ∙ found.2) in
        subst (λ n. number_at new n ≡ target n) place (settling.over found.0 found.1)

    at : (j : ℕ) → j < length leads → number_at all j ≡ target j
    at j listed = ⊎_elim
        (λ is. stays settled all j (stays numbers settled j is (first.each j listed)) (second.each j listed))
        (λ later. ⊎_elim
        (λ has. stays settled all j (there far.cells cells numbers settled j cells_moved first has) (second.each j listed))
        (λ has. there far.binaries binaries settled all j binaries_moved second has) later) (near.each j listed)
