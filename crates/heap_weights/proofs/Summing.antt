-- The cells of all parts and those of several are together all that are held.
use Rattle.std.proofs.Common.{◌≡◌, ℕ, zero, suc, ◌+◌, ◌<◌, ◌≤◌, ◌==◌, Bool, List, length, refl, ◌∙◌, ap, inl, inr, arith}
use Rattle.std.specs.List.{sum_by}
use Rattle.std.proofs.lemmas.Bool.{cases_order, eq-eqb, ne_eqb}
use Rattle.std.proofs.lemmas.List.Sums.{sum_by-cons}
use Rattle.std.proofs.lemmas.Option.{slice_get_within}
use Rattle.cell_graphs.specs.Graphs.{Graph, LeadsWithin}
use Rattle.cell_graphs.specs.Counts.{count_below, one_if}
use Rattle.heap_weights.specs.declared.holders.Holder.{Holder}
use Rattle.heap_weights.specs.declared.holders.Holder.TheVariants.{Nobody, Several, Part}
use Rattle.heap_weights.specs.declared.shares.Shares.{Shares}
use Rattle.heap_weights.specs.declared.shares.Weight.{Weight}
use Rattle.heap_weights.specs.Holders.{is_held, label_of}
use Rattle.heap_weights.specs.Parts.{holder_of}
use Rattle.heap_weights.specs.Shares.{AreShares, is_same, weight_of, weights_from}
use Rattle.heap_weights.proofs.Reachers.{alone-is}

-- ---- one cell

-- how often its holder is one of so many parts
abbrev once : ℕ → ℕ → Holder → ℕ
once part zero holder = 0
once part (suc count) holder = one_if (is_same (Part part) holder) + once (suc part) count holder

not-one : (a b : ℕ) → (a ≡ b → ⊥) → one_if (a == b) ≡ 0
not-one a b other = ap one_if (ne_eqb a b other)

once-nobody : (part count : ℕ) → once part count Nobody ≡ 0
once-nobody part zero = refl
once-nobody part (suc count) =
    let first : one_if (is_same (Part part) Nobody) ≡ 0 = not-one (part + 2) 0 (λ same. omega (arith, same)) in
    let rest : once (suc part) count Nobody ≡ 0 = once-nobody (suc part) count in
    omega (arith, first, rest)

once-several : (part count : ℕ) → once part count Several ≡ 0
once-several part zero = refl
once-several part (suc count) =
    let first : one_if (is_same (Part part) Several) ≡ 0 = not-one (part + 2) 1 (λ same. omega (arith, same)) in
    let rest : once (suc part) count Several ≡ 0 = once-several (suc part) count in
    omega (arith, first, rest)

once-before : (part count k : ℕ) → k < part → once part count (Part k) ≡ 0
once-before part zero k less = refl
once-before part (suc count) k less =
    let first : one_if (is_same (Part part) (Part k)) ≡ 0 = not-one (part + 2) (k + 2) (λ same. omega (arith, same, less)) in
    let rest : once (suc part) count (Part k) ≡ 0 = once-before (suc part) count k (omega (arith, less)) in
    omega (arith, first, rest)

once-part : (part count k : ℕ) → part ≤ k → k < part + count → once part count (Part k) ≡ 1
once-part part zero k from less = absurd (omega (arith, from, less))
once-part part (suc count) k from less =
    elim (cases_order part k) [
      | inl same ↦
          let first : one_if (is_same (Part part) (Part k)) ≡ 1 = ap one_if (eq-eqb (part + 2) (k + 2) (omega (arith, same))) in
          let rest : once (suc part) count (Part k) ≡ 0 = once-before (suc part) count k (omega (arith, same)) in
          omega (arith, first, rest)
      | inr (inl before) ↦
          let first : one_if (is_same (Part part) (Part k)) ≡ 0 = not-one (part + 2) (k + 2) (λ same. omega (arith, same, before)) in
          let rest : once (suc part) count (Part k) ≡ 1 = once-part (suc part) count k before (omega (arith, less)) in
          omega (arith, first, rest)
      | inr (inr past) ↦ absurd (omega (arith, past, from))
    ]

once-all : (count : ℕ) (holder : Holder) → label_of holder < count + 2 → once 0 count holder + one_if (is_same Several holder) ≡ one_if (is_held holder)
once-all count Nobody known = let none : once 0 count Nobody ≡ 0 = once-nobody 0 count in omega (arith, none)
once-all count Several known = let none : once 0 count Several ≡ 0 = once-several 0 count in omega (arith, none)
once-all count (Part k) known =
    let one : once 0 count (Part k) ≡ 1 = once-part 0 count k (omega arith) (omega (arith, known)) in
    let several : one_if (is_same Several (Part k)) ≡ 0 = not-one 1 (k + 2) (λ same. omega (arith, same)) in
    omega (arith, one, several)

-- ---- all cells

module _ (holders : ℕ → Holder) where
  abbrev count_of : Holder → ℕ → ℕ
  count_of holder n = count_below (λ k. is_same holder (holders k)) n

  -- the cells of so many parts
  abbrev counts : ℕ → ℕ → ℕ → ℕ
  counts part zero n = 0
  counts part (suc count) n = count_of (Part part) n + counts (suc part) count n

  counts-none : (part count : ℕ) → counts part count 0 ≡ 0
  counts-none part zero = refl
  counts-none part (suc count) = let rest : counts (suc part) count 0 ≡ 0 = counts-none (suc part) count in omega (arith, rest)

  counts-more : (part count n : ℕ) → counts part count (suc n) ≡ counts part count n + once part count (holders n)
  counts-more part zero n = refl
  counts-more part (suc count) n =
      let rest : counts (suc part) count (suc n) ≡ counts (suc part) count n + once (suc part) count (holders n) = counts-more (suc part) count n in
      omega (arith, rest)

  counts-all : (count n : ℕ) → ((k : ℕ) → label_of (holders k) < count + 2) → counts 0 count n + count_of Several n ≡ count_below (λ k. is_held (holders k)) n
  counts-all count zero known = let none : counts 0 count 0 ≡ 0 = counts-none 0 count in omega (arith, none)
  counts-all count (suc n) known =
      let before : counts 0 count n + count_of Several n ≡ count_below (λ k. is_held (holders k)) n = counts-all count n known in
      let here : once 0 count (holders n) + one_if (is_same Several (holders n)) ≡ one_if (is_held (holders n)) = once-all count (holders n) (known n) in
      let more : counts 0 count (suc n) ≡ counts 0 count n + once 0 count (holders n) = counts-more 0 count n in
      omega (arith, before, here, more)

  sum-counts : (words : List ℕ) (binaries : List Bool) (n part count : ℕ) → sum_by (λ (weight : Weight). weight.cells) (weights_from part words binaries holders n count) ≡ counts part count n
  sum-counts words binaries n part zero = refl
  sum-counts words binaries n part (suc count) =
      sum_by-cons (λ (weight : Weight). weight.cells) (weight_of words binaries holders (Part part) n) (weights_from (suc part) words binaries holders n count)
      ∙ ap (λ k. count_of (Part part) n + k) (sum-counts words binaries n (suc part) count)

-- ---- each holder is one of those that are counted

module _ (graph : Graph) (within : LeadsWithin graph) (roots : List ℕ) where
  known-by : (n : ℕ) (holder : Holder) → holder_of graph roots n ≡ holder → label_of holder < length roots + 2
  known-by n Nobody is = omega arith
  known-by n Several is = omega arith
  known-by n (Part k) is =
      let alone = (alone-is graph within n roots k).0 is in
      omega (arith, slice_get_within roots k alone.reaches.cell alone.reaches.here)

  pub add-up : (words : List ℕ) (binaries : List Bool) (own : ℕ) (shares : Shares) → AreShares graph words binaries own roots shares
      → sum_by (λ (weight : Weight). weight.cells) shares.alone.items + shares.shared.cells ≡ shares.reached.cells
  add-up words binaries own shares are =
      let holders : ℕ → Holder = holder_of graph roots in
      let alone : sum_by (λ (weight : Weight). weight.cells) shares.alone.items ≡ counts holders 0 (length roots) own =
      ap (sum_by (λ (weight : Weight). weight.cells)) are.alone ∙ sum-counts holders words binaries own 0 (length roots) in
      let shared : shares.shared.cells ≡ count_of holders Several own = ap (λ (weight : Weight). weight.cells) are.shared in
      let reached : shares.reached.cells ≡ count_below (λ k. is_held (holders k)) own = ap (λ (weight : Weight). weight.cells) are.reached in
      let all : counts holders 0 (length roots) own + count_of holders Several own ≡ count_below (λ k. is_held (holders k)) own =
      counts-all holders (length roots) own (λ k. known-by k (holders k) refl) in
      omega (arith, alone, shared, reached, all)
