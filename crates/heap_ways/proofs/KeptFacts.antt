-- What is kept of a way, and what is shown of it.
use Rattle.std.proofs.Common.{◌≡◌, ℕ, zero, suc, ◌<◌, ◌==◌, Bool, true, false, List, [], ◌∷◌, ◌++◌, get_or, length, map, Option, None, Some, refl, sym, ◌∙◌, ap, ap₂, subst, arith}
use Rattle.std.specs.Prelude.{All, Contains, filter, position, slice_index_or, if◌then◌else◌}
use Rattle.std.specs.List.{AllByRecursion}
use Rattle.std.specs.List.Sorted.{IsStrictlyIncreasing}
use Rattle.std.specs.Option.{option_map}
use Rattle.std.proofs.lemmas.List.{get_or-map, get_or_default}
use Rattle.std.proofs.lemmas.List.Elements.{recursion_from_All}
use Rattle.heap_skeleton.specs.Kinds.{cell_kind}
use Rattle.cell_parts.specs.Parts.{CellPart}
use Rattle.cell_ways.specs.Depths.{depth_of, way_to}
use Rattle.dump_sections.specs.Index.{Contents}
use Rattle.heap_cells.specs.Cells.{Cell}
use Rattle.heap_skeleton.specs.Skeletons.{SkeletonMap, is_tuple}
use Rattle.tuple_fronts.specs.CellSets.{place_of}
use Rattle.tuple_fronts.specs.Laws.CellSets.{found-place}
use Rattle.tuple_fronts.specs.Shapes.{inner_shape}
use Rattle.heap_ways.specs.Steps.{steps_of}
use Rattle.heap_ways.specs.Ways.{address_of, is_part, line_of, root_of, root_way, way_found, Line, Single, Way, WayRoot}
use Rattle.heap_ways.specs.declared.placing.Placed.{Placed}
use Rattle.heap_ways.specs.declared.roots.Root.{Root}
use Rattle.heap_ways.specs.declared.steps.Step.{Step}
use Rattle.heap_ways.specs.declared.steps.Step.TheVariants as step
use Rattle.heap_ways.specs.Inner.Kept.{line_kept, placed, root_kept, step_cell, way_kept, AreIn, HasTuples, IsIn}
use Rattle.heap_ways.proofs.StepFacts.{steps-in}

-- what passes and is among others is among those that pass
pub filter-has : (test : ℕ → Bool) (xs : List ℕ) (n : ℕ) → Contains xs n → test n ≡ true → Contains (filter test xs) n
filter-has test [] n (i, inside, is) passes = absurd (omega (arith, inside))
filter-has test (x ∷ xs) n (zero, inside, is) passes =
    subst (λ b. Contains (if b then x ∷ filter test xs else filter test xs) n) (sym (ap test is ∙ passes)) (0, omega arith, is)
filter-has test (x ∷ xs) n (suc i, inside, is) passes = by (test x) (filter-has test xs n (i, omega (arith, inside), is) passes)
  where
    by : (b : Bool) → Contains (filter test xs) n → Contains (if b then x ∷ filter test xs else filter test xs) n
    by true (k, within, same) = (suc k, omega (arith, within), same)
    by false has = has

-- the cells of the steps of a way are cells of the heap
pub cells-in : (heap : SkeletonMap) (way : List ℕ) → All (λ n. n < length heap.leads) way → AllByRecursion (λ st. step_cell st < length heap.leads) (steps_of heap.kinds heap.leads way)
cells-in heap way all = steps-in (λ n. n < length heap.leads) heap.kinds heap.leads None way (recursion_from_All (λ n. n < length heap.leads) way all)

-- ---- shapes

module _ (heap : SkeletonMap) (cells : List Cell) (tuples : List ℕ) (rising : IsStrictlyIncreasing tuples) where
  abbrev fronts : List (List ℕ)
  fronts = map (inner_shape cells) tuples

  -- the shape of a tuple is found
  front-found : (n : ℕ) → Contains tuples n → option_map (λ i. slice_index_or fronts i []) (place_of tuples n) ≡ Some (inner_shape cells n)
  front-found n (i, inside, is) =
      let here : get_or tuples i 0 ≡ n = get_or_default tuples i 0 n inside ∙ is in
      ap (option_map (λ k. slice_index_or fronts k [])) (sym (found-place tuples n i rising inside here))
      ∙ ap Some (get_or-map (inner_shape cells) tuples i n [] inside ∙ ap (inner_shape cells) is)

  front-is : (n : ℕ) (b : Bool) → is_tuple heap n ≡ b → (is_tuple heap n ≡ true → Contains tuples n)
      → option_map (λ i. slice_index_or fronts i []) (if b then place_of tuples n else None) ≡ (if b then Some (inner_shape cells n) else None)
  front-is n true is has = front-found n (has is)
  front-is n false is has = refl

  line-is : (st : Step) → (is_tuple heap (step_cell st) ≡ true → Contains tuples (step_cell st)) → line_kept heap fronts (placed heap tuples st) ≡ line_of heap cells st
  line-is (step.Tails n count) has = refl
  line-is (step.Cell n place) has = ap (Single (address_of heap n) (cell_kind heap.kinds n) place) (front-is n (is_tuple heap n) refl has)

  lines-are : (steps : List Step) → AllByRecursion (λ st. is_tuple heap (step_cell st) ≡ true → Contains tuples (step_cell st)) steps
      → map (line_kept heap fronts) (map (placed heap tuples) steps) ≡ map (line_of heap cells) steps
  lines-are [] has = refl
  lines-are (st ∷ steps) has = ap₂ (λ l ls. l ∷ ls) (line-is st has.0) (lines-are steps has.1)

all-contained : (xs : List ℕ) (P : ℕ → Type 0) → ((n : ℕ) → Contains xs n → P n) → AllByRecursion P xs
all-contained [] P each = tt
all-contained (x ∷ xs) P each = (each x (0, omega arith, refl), all-contained xs P (λ n (i, inside, is). each n (suc i, omega (arith, inside), is)))

-- the lines of a way
pub lines-shown : (heap : SkeletonMap) (cells : List Cell) (way tuples : List ℕ) (shapes : List (List ℕ)) (steps : List Placed) → IsStrictlyIncreasing tuples → HasTuples heap way tuples
    → shapes ≡ map (inner_shape cells) tuples → steps ≡ map (placed heap tuples) (steps_of heap.kinds heap.leads way)
    → map (line_kept heap shapes) steps ≡ map (line_of heap cells) (steps_of heap.kinds heap.leads way)
lines-shown heap cells way tuples shapes steps rising has fronts_are steps_are =
    let whole = steps_of heap.kinds heap.leads way in
    ap₂ (λ f s. map (line_kept heap f) s) fronts_are steps_are
    ∙ lines-are heap cells tuples rising whole
    (steps-in (λ n. is_tuple heap n ≡ true → Contains tuples n) heap.kinds heap.leads None way (all-contained way (λ n. is_tuple heap n ≡ true → Contains tuples n) has))

-- ---- steps with the numbers of their shapes

-- one step more
pub placed-next : (heap : SkeletonMap) (count : ℕ) (steps : List Placed) (p : Placed) → AreIn heap count steps → IsIn heap count p → AreIn heap count (steps ++ p ∷ [])
placed-next heap count [] p all one = (one, tt)
placed-next heap count (q ∷ steps) p all one = (all.0, placed-next heap count steps p all.1 one)

-- ---- the whole way

abbrev way_of : WayRoot → List Line → Option ℕ → Way
way_of root lines depth = record { root = root; lines = lines; depth = depth }

-- what is kept of a way is what the definition says
pub way-shown : (heap : SkeletonMap) (cells : List Cell) (parts : List CellPart) (cell : ℕ) (way rooted asked stepped tuples : List ℕ) (shapes : List (List ℕ)) (steps : List Placed) (root : Root) (depth : Option ℕ)
    → rooted ≡ way → asked ≡ way → stepped ≡ way → way ≡ way_to heap.leads (is_part parts) cell → depth ≡ depth_of heap.leads (is_part parts) cell
    → root_kept root ≡ root_of parts rooted → HasTuples heap asked tuples → IsStrictlyIncreasing tuples
    → steps ≡ map (placed heap tuples) (steps_of heap.kinds heap.leads stepped) → shapes ≡ map (inner_shape cells) tuples
    → way_kept heap root steps shapes depth ≡ way_found heap cells parts cell
way-shown heap cells parts cell way rooted asked stepped tuples shapes steps root depth rooted_is asked_is stepped_is way_is depth_is root_is has rising steps_are shapes_are =
    let whole = way_to heap.leads (is_part parts) cell in
    let found : WayRoot = root_of parts whole in
    let lines : map (line_kept heap shapes) steps ≡ map (line_of heap cells) (steps_of heap.kinds heap.leads whole) =
    lines-shown heap cells whole tuples shapes steps rising (subst (λ w. HasTuples heap w tuples) (asked_is ∙ way_is) has) shapes_are
    (steps_are ∙ ap (λ w. map (placed heap tuples) (steps_of heap.kinds heap.leads w)) (stepped_is ∙ way_is)) in
    ap (λ r. way_of r (map (line_kept heap shapes) steps) depth) (root_is ∙ ap (root_of parts) (rooted_is ∙ way_is))
    ∙ ap₂ (way_of found) lines depth_is

-- ---- the cell at an address

-- the way to the cell that was found
pub address-found : (dump : List ℕ) (index : Contents) (pid : List ℕ) (heap whole : SkeletonMap) (address : ℕ) (found : Option ℕ) → found ≡ position (λ a. a == address) heap.addresses → heap ≡ whole
    → option_map (root_way dump index pid heap) found ≡ option_map (root_way dump index pid whole) (position (λ a. a == address) whole.addresses)
address-found dump index pid heap whole address found is same =
    ap (option_map (root_way dump index pid heap)) is
    ∙ ap (λ (h : SkeletonMap). option_map (root_way dump index pid h) (position (λ a. a == address) h.addresses)) same
