-- The cells of a heap, and behind them one for each kind of roots.
use Rattle.std.proofs.Common.{◌≡◌, ◌⊎◌, inl, inr, ℕ, zero, suc, ◌+◌, ◌-◌, ◌<◌, ◌≤◌, ◌==◌, Bool, true, false, if◌then◌else◌, nat_lt, List, [], ◌∷◌, ◌++◌, length, map, take, get_or, Some, refl, sym, ◌∙◌, ap, ap₂, subst, arith, length-append}
use Rattle.std.specs.Prelude.{All, filter, slice_get, slice_index_or, ◌&&◌, Result, Ok, Err, IfOk}
use Rattle.std.specs.List.{zip}
use Rattle.std.proofs.Math.ListN.{get_or-append}
use Rattle.std.proofs.lemmas.Bool.{cases_lt}
use Rattle.std.proofs.lemmas.List.{get_or-take}
use Rattle.std.proofs.lemmas.Option.{none-some, same_Some}
use Rattle.cell_graphs.specs.Counts.{count_below, one_if}
use Rattle.cell_graphs.specs.Graphs.{Graph, LeadsWithin, places_at}
use Rattle.cell_parts.specs.Parts.{CellPart}
use Rattle.heap_graph.specs.Binaries.{binaries_among, binary_at}
use Rattle.heap_weights.specs.declared.holders.Holder.{Holder}
use Rattle.heap_weights.specs.declared.holders.Holder.TheVariants.{Several, Part}
use Rattle.heap_weights.specs.declared.shares.Shares.{Shares}
use Rattle.heap_weights.specs.declared.shares.Weight.{Weight}
use Rattle.heap_weights.specs.Holders.{is_held}
use Rattle.heap_weights.specs.Parts.{holder_of}
use Rattle.heap_weights.specs.Shares.{AreShares, is_same, weight_below, weights_from, words_below, words_if}
use Rattle.heap_skeleton.specs.Skeletons.{SkeletonMap}
use Rattle.root_views.specs.declared.kinds.RootKind.TheVariants.{Stack, Dict, Mail}
use Rattle.text_groups.specs.Sorting.{most_first}
use Rattle.heap_levels.specs.Levels.{KindWeighing, kind_cells, kind_row, kind_weighing, kinds, part_leads, with_kinds}
use Rattle.heap_levels.specs.declared.kinds.KindRow.{KindRow}
use Rattle.heap_levels.specs.Inner.Kinds.{sorted_rows}
use Rattle.heap_levels.specs.Inner.KindGraphs.{KindMap, kind_graph, parts_of}

behind : {X : Type 0} (xs ys : List X) (i : ℕ) (past : X) → length xs ≤ i → slice_index_or (xs ++ ys) i past ≡ slice_index_or ys (i - length xs) past
behind [] ys i past from = ap (λ k. slice_index_or ys k past) (let same : i ≡ i - 0 = omega arith in same)
behind (x ∷ xs) ys zero past from = absurd (omega (arith, from))
behind (x ∷ xs) ys (suc i) past from =
    behind xs ys i past (omega (arith, from)) ∙ ap (λ k. slice_index_or ys k past) (let same : i - length xs ≡ suc i - suc (length xs) = omega arith in same)

kind-by : (m : KindMap) (k : ℕ) → k < 3 → slice_index_or (part_leads m.stack ∷ part_leads m.dict ∷ part_leads m.mail ∷ []) k [] ≡ part_leads (parts_of m k)
kind-by m zero few = refl
kind-by m (suc zero) few = refl
kind-by m (suc (suc zero)) few = refl
kind-by m (suc (suc (suc k))) few = absurd (omega (arith, few))

pub places-own : (m : KindMap) (cell : ℕ) → cell < length m.heap.leads → places_at (kind_graph m) cell ≡ places_at m.heap.leads cell
places-own m cell less = get_or-append m.heap.leads (part_leads m.stack ∷ part_leads m.dict ∷ part_leads m.mail ∷ []) [] cell less

pub places-kind : (m : KindMap) (cell : ℕ) → length m.heap.leads ≤ cell → cell < length m.heap.leads + 3 → places_at (kind_graph m) cell ≡ part_leads (parts_of m (cell - length m.heap.leads))
places-kind m cell from few =
    behind m.heap.leads (part_leads m.stack ∷ part_leads m.dict ∷ part_leads m.mail ∷ []) cell [] from ∙ kind-by m (cell - length m.heap.leads) (omega (arith, few, from))

pub length-kinds : (m : KindMap) → length (kind_graph m) ≡ length m.heap.leads + 3
length-kinds m = length-append m.heap.leads (part_leads m.stack ∷ part_leads m.dict ∷ part_leads m.mail ∷ [])

-- a place of a kind leads to the cell of a part
part-lead : (n : ℕ) (parts : List CellPart) (k b : ℕ) → All (λ cell. cell < n) (map (λ (p : CellPart). p.cell) parts) → slice_get (part_leads parts) k ≡ Some (Some b) → b < n
part-lead n [] k b within is = absurd (none-some (Some b) is)
part-lead n (p ∷ parts) zero b within is =
    let same : p.cell ≡ b = same_Some p.cell b (same_Some (Some p.cell) (Some b) is) in
    subst (λ c. c < n) same (within 0 0 (omega arith))
part-lead n (p ∷ parts) (suc k) b within is = part-lead n parts k b (λ i d inside. within (suc i) d (omega (arith, inside))) is

past-nothing : (m : KindMap) (cell : ℕ) → length m.heap.leads + 3 ≤ cell → places_at (kind_graph m) cell ≡ []
past-nothing m cell past =
    behind m.heap.leads (part_leads m.stack ∷ part_leads m.dict ∷ part_leads m.mail ∷ []) cell [] (omega (arith, past)) ∙ none (cell - length m.heap.leads) (omega (arith, past))
  where
    none : (k : ℕ) → 3 ≤ k → slice_index_or (part_leads m.stack ∷ part_leads m.dict ∷ part_leads m.mail ∷ []) k [] ≡ []
    none zero three = absurd (omega (arith, three))
    none (suc zero) three = absurd (omega (arith, three))
    none (suc (suc zero)) three = absurd (omega (arith, three))
    none (suc (suc (suc k))) three = refl

pub kinds-within : (m : KindMap) → LeadsWithin m.heap.leads → ((k : ℕ) → All (λ cell. cell < length m.heap.leads) (map (λ (p : CellPart). p.cell) (parts_of m k))) → LeadsWithin (kind_graph m)
kinds-within m within kinds a b (k, is) = by (cases_lt a (length m.heap.leads)) (cases_lt a (length m.heap.leads + 3))
  where
    by : (a < length m.heap.leads) ⊎ (length m.heap.leads ≤ a) → (a < length m.heap.leads + 3) ⊎ (length m.heap.leads + 3 ≤ a) → b < length (kind_graph m)
    by (inl own) some =
        let less = within a b (k, sym (ap (λ l. slice_get l k) (places-own m a own)) ∙ is) in omega (arith, less, length-kinds m)
    by (inr from) (inl few) =
        let less = part-lead (length m.heap.leads) (parts_of m (a - length m.heap.leads)) k b (kinds (a - length m.heap.leads)) (sym (ap (λ l. slice_get l k) (places-kind m a from few)) ∙ is) in
        omega (arith, less, length-kinds m)
    by (inr from) (inr past) = absurd (none-some (Some b) (sym (ap (λ l. slice_get l k) (past-nothing m a past)) ∙ is))

pub all-kinds : (m : KindMap) (n : ℕ) → All (λ cell. cell < n) (map (λ (p : CellPart). p.cell) m.stack) → All (λ cell. cell < n) (map (λ (p : CellPart). p.cell) m.dict)
    → All (λ cell. cell < n) (map (λ (p : CellPart). p.cell) m.mail) → (k : ℕ) → All (λ cell. cell < n) (map (λ (p : CellPart). p.cell) (parts_of m k))
all-kinds m n stack dict mail k = by (k == 0) (k == 1)
  where
    by : (a b : Bool) → All (λ cell. cell < n) (map (λ (p : CellPart). p.cell) (if a then m.stack else (if b then m.dict else m.mail)))
    by true b = stack
    by false true = dict
    by false false = mail

-- ---- words and binaries

take-past : {X : Type 0} (xs : List X) (n i : ℕ) (past : X) → n ≤ i → get_or (take n xs) i past ≡ past
take-past [] zero i past from = refl
take-past [] (suc n) i past from = refl
take-past (x ∷ xs) zero i past from = refl
take-past (x ∷ xs) (suc n) zero past from = absurd (omega (arith, from))
take-past (x ∷ xs) (suc n) (suc i) past from = take-past xs n i past (omega (arith, from))

pub value-own : {X : Type 0} (xs : List X) (n i : ℕ) (past : X) → i < n → get_or xs i past ≡ get_or (take n xs) i past
value-own xs n i past less = sym (get_or-take n xs i past less)

pub value-past : {X : Type 0} (xs : List X) (n i : ℕ) (past : X) → n ≤ i → past ≡ get_or (take n xs) i past
value-past xs n i past from = sym (take-past xs n i past from)

-- the first cells weigh as much if only those are looked at
words-first : (words : List ℕ) (n : ℕ) (set : ℕ → Bool) (own : ℕ) → own ≤ n → words_below (take n words) set own ≡ words_below words set own
words-first words n set zero few = refl
words-first words n set (suc own) few =
    ap₂ (λ a b. a + words_if (set own) b) (words-first words n set own (omega (arith, few))) (get_or-take n words own 0 (omega (arith, few)))

count-first : (f g : ℕ → Bool) (own : ℕ) → ((k : ℕ) → k < own → f k ≡ g k) → count_below f own ≡ count_below g own
count-first f g zero same = refl
count-first f g (suc own) same = ap₂ (λ a b. a + one_if b) (count-first f g own (λ k less. same k (omega (arith, less)))) (same own (omega arith))

weight-first : (words : List ℕ) (binaries : List Bool) (n : ℕ) (set : ℕ → Bool) (own : ℕ) → own ≤ n → weight_below (take n words) (take n binaries) set own ≡ weight_below words binaries set own
weight-first words binaries n set own few =
    ap₂ (λ (sum found : ℕ). let w : Weight = record { cells = count_below set own; words = sum; binaries = found } in w) (words-first words n set own few)
    (count-first (λ k. set k && binary_at (take n binaries) k) (λ k. set k && binary_at binaries k) own
    (λ k less. ap (λ b. set k && b) (get_or-take n binaries k false (omega (arith, few, less)))))

weights-first : (words : List ℕ) (binaries : List Bool) (n : ℕ) (holders : ℕ → Holder) (own part count : ℕ) → own ≤ n
    → weights_from part (take n words) (take n binaries) holders own count ≡ weights_from part words binaries holders own count
weights-first words binaries n holders own part zero few = refl
weights-first words binaries n holders own part (suc count) few =
    ap₂ (λ w l. w ∷ l) (weight-first words binaries n (λ k. is_same (Part part) (holders k)) own few) (weights-first words binaries n holders own (suc part) count few)

pub shares-first : (graph : Graph) (words : List ℕ) (binaries : List Bool) (n own : ℕ) (roots : List ℕ) (shares : Shares) → own ≤ n → AreShares graph (take n words) (take n binaries) own roots shares
    → AreShares graph words binaries own roots shares
shares-first graph words binaries n own roots shares few are = record {
  alone = are.alone ∙ weights-first words binaries n (holder_of graph roots) own 0 (length roots) few;
  shared = are.shared ∙ weight-first words binaries n (λ k. is_same Several (holder_of graph roots k)) own few;
  reached = are.reached ∙ weight-first words binaries n (λ k. is_held (holder_of graph roots k)) own few;
  own = are.own ∙ weight-first words binaries n (λ k. true) own few;
}

pub shares-weighed : {E : Type 0} (graph : Graph) (words : List ℕ) (binaries : List Bool) (n own : ℕ) (roots : List ℕ) (result : Result Shares E) → own ≤ n
    → IfOk result (AreShares graph (take n words) (take n binaries) own roots) → IfOk result (AreShares graph words binaries own roots)
shares-weighed graph words binaries n own roots (Ok shares) few are = shares-first graph words binaries n own roots shares few are
shares-weighed graph words binaries n own roots (Err e) few are = tt

-- ---- the rows of the kinds

kept-by : (a b c : Bool) (x y z : KindRow)
    → (if a then x ∷ (if b then y ∷ (if c then z ∷ [] else []) else (if c then z ∷ [] else [])) else (if b then y ∷ (if c then z ∷ [] else []) else (if c then z ∷ [] else [])))
    ≡ ((if a then x ∷ [] else []) ++ (if b then y ∷ [] else [])) ++ (if c then z ∷ [] else [])
kept-by true true true x y z = refl
kept-by true true false x y z = refl
kept-by true false true x y z = refl
kept-by true false false x y z = refl
kept-by false true true x y z = refl
kept-by false true false x y z = refl
kept-by false false true x y z = refl
kept-by false false false x y z = refl

-- what is kept of level 0 is what the definition says
pub kinds-kept : (heap : SkeletonMap) (stack dict mail : List CellPart) (shares : Shares) (u v w : Weight) (rows : List KindRow)
    → AreShares (with_kinds heap.leads stack dict mail) heap.words (binaries_among heap.kinds) heap.own (kind_cells heap.leads) shares
    → slice_get shares.alone.items 0 ≡ Some u → slice_get shares.alone.items 1 ≡ Some v → slice_get shares.alone.items 2 ≡ Some w → rows ≡ sorted_rows u v w
    → (let level : KindWeighing = record { rows = rows; shared = shares.shared; reached = shares.reached } in level) ≡ kind_weighing heap stack dict mail
kinds-kept heap stack dict mail shares u v w rows are first second third rows_are =
    let holders : ℕ → Holder = holder_of (with_kinds heap.leads stack dict mail) (kind_cells heap.leads) in
    let binaries = binaries_among heap.kinds in
    let weight : ℕ → Weight = λ k. weight_below heap.words binaries (λ n. is_same (Part k) (holders n)) heap.own in
    let one : weight 0 ≡ u = same_Some (weight 0) u (sym (ap (λ l. slice_get l 0) are.alone) ∙ first) in
    let two : weight 1 ≡ v = same_Some (weight 1) v (sym (ap (λ l. slice_get l 1) are.alone) ∙ second) in
    let three : weight 2 ≡ w = same_Some (weight 2) w (sym (ap (λ l. slice_get l 2) are.alone) ∙ third) in
    let all : rows ≡ most_first (λ row. row.weight.words) (filter (λ row. nat_lt 0 row.weight.cells) (map kind_row (zip kinds (weight 0 ∷ weight 1 ∷ weight 2 ∷ [])))) =
    rows_are ∙ ap₂ (λ a b. sorted_rows a b w) (sym one) (sym two) ∙ ap (sorted_rows (weight 0) (weight 1)) (sym three)
    ∙ ap (most_first (λ row. row.weight.words))
    (sym (kept-by (nat_lt 0 (weight 0).cells) (nat_lt 0 (weight 1).cells) (nat_lt 0 (weight 2).cells) (kind_row (Stack, weight 0)) (kind_row (Dict, weight 1)) (kind_row (Mail, weight 2)))) in
    rw (all, are.shared, are.reached) refl
