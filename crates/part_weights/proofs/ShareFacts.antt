-- What parts alone hold, as it is kept and as the definitions say.
use Rattle.std.proofs.Common.{◌≡◌, ℕ, zero, suc, ◌+◌, ◌==◌, Bool, true, false, List, [], ◌∷◌, ◌++◌, length, map, Option, None, refl, sym, ◌∙◌, ap, ap₂}
use Rattle.std.specs.Prelude.{◌&&◌, slice_index_or, option_map}
use Rattle.std.specs.List.{position}
use Rattle.std.proofs.lemmas.List.{length-map}
use Rattle.cell_graphs.specs.Counts.{count_below, one_if}
use Rattle.cell_graphs.specs.Graphs.{Graph}
use Rattle.cell_parts.specs.Parts.{ArePartsOf, CellPart, CellParts, PartElement}
use Rattle.heap_graph.specs.Binaries.{binaries_among, binary_at}
use Rattle.heap_cells.specs.Cells.{Cell}
use Rattle.heap_skeleton.specs.Skeletons.{SkeletonMap}
use Rattle.heap_weights.specs.Holders.{holder_among, is_held}
use Rattle.heap_weights.specs.Parts.{holder_of, number_if, reached_at}
use Rattle.heap_weights.specs.Shares.{weight_below, weights_from, words_below, words_if}
use Rattle.heap_weights.specs.declared.holders.Holder.{Holder}
use Rattle.heap_weights.specs.declared.shares.Shares.{Shares}
use Rattle.heap_weights.specs.declared.shares.Weight.{Weight}
use Rattle.part_weights.specs.Weights.{cell_weighing, rows_of, weighing}
use Rattle.part_weights.specs.Held.{sorted_parts}
use Rattle.part_weights.specs.Inner.Shown.{AreParts, labelled_rows, weighing_with}
use Rattle.part_weights.specs.Laws.Rows.{rows-sorted}
use Rattle.part_weights.proofs.KeyedFacts.{plain-rows}

-- ---- one part

-- a single part holds what it reaches
held-alone : (b : Bool) → is_held (holder_among (number_if b 0 ++ [])) ≡ b
held-alone true = refl
held-alone false = refl

count-same : (f g : ℕ → Bool) → ((k : ℕ) → f k ≡ g k) → (n : ℕ) → count_below f n ≡ count_below g n
count-same f g same zero = refl
count-same f g same (suc n) = ap₂ (λ a b. a + one_if b) (count-same f g same n) (same n)

words-same : (words : List ℕ) (f g : ℕ → Bool) → ((k : ℕ) → f k ≡ g k) → (n : ℕ) → words_below words f n ≡ words_below words g n
words-same words f g same zero = refl
words-same words f g same (suc n) = ap₂ (λ a b. a + words_if b (slice_index_or words n 0)) (words-same words f g same n) (same n)

abbrev weight_with : ℕ → ℕ → ℕ → Weight
weight_with cells words binaries = record { cells = cells; words = words; binaries = binaries }

-- what one part reaches
pub reached-alone : (graph : Graph) (words : List ℕ) (binaries : List Bool) (cell own : ℕ) → weight_below words binaries (λ k. is_held (holder_of graph (cell ∷ []) k)) own ≡ weight_below words binaries (reached_at graph cell) own
reached-alone graph words binaries cell own =
    let each : (k : ℕ) → is_held (holder_of graph (cell ∷ []) k) ≡ reached_at graph cell k = λ k. held-alone (reached_at graph cell k) in
    ap₂ (λ cells sum. weight_with cells sum (count_below (λ k. is_held (holder_of graph (cell ∷ []) k) && binary_at binaries k) own)) (count-same _ _ each own) (words-same words _ _ each own)
    ∙ ap (weight_with (count_below (reached_at graph cell) own) (words_below words (reached_at graph cell) own))
    (count-same (λ k. is_held (holder_of graph (cell ∷ []) k) && binary_at binaries k) (λ k. reached_at graph cell k && binary_at binaries k) (λ k. ap (λ b. b && binary_at binaries k) (each k)) own)

-- ---- all parts

length-weights : (part : ℕ) (words : List ℕ) (binaries : List Bool) (holders : ℕ → Holder) (n count : ℕ) → length (weights_from part words binaries holders n count) ≡ count
length-weights part words binaries holders n zero = refl
length-weights part words binaries holders n (suc count) = ap suc (length-weights (suc part) words binaries holders n count)

-- each part has a share
pub shares-count : (heap : SkeletonMap) (parts : List CellPart) (shares : Shares) → AreParts heap parts shares → length shares.alone.items ≡ length parts
shares-count heap parts shares are =
    let roots = map (λ (p : CellPart). p.cell) parts in
    ap length are.alone ∙ length-weights 0 heap.words (binaries_among heap.kinds) (holder_of heap.leads roots) heap.own (length roots) ∙ length-map parts (λ (p : CellPart). p.cell)

-- what is kept is what the definition says
pub weighing-kept : (heap : SkeletonMap) (parts : CellParts) (shares : Shares) (within : Option Weight) (elements : List PartElement) → ArePartsOf elements parts → AreParts heap parts.parts shares
    → weighing_with heap parts (sorted_parts shares.alone.items) None within shares.shared shares.reached shares.own ≡ weighing heap within elements
weighing-kept heap parts shares within elements of are =
    let roots = map (λ (p : CellPart). p.cell) parts.parts in
    let holders = holder_of heap.leads roots in
    let alone : shares.alone.items ≡ weights_from 0 heap.words (binaries_among heap.kinds) holders heap.own (length parts.parts) =
    are.alone ∙ ap (weights_from 0 heap.words (binaries_among heap.kinds) holders heap.own) (length-map parts.parts (λ (p : CellPart). p.cell)) in
    let size : length parts.parts ≡ length shares.alone.items = sym (shares-count heap parts.parts shares are) in
    let rows : labelled_rows heap parts.parts None (sorted_parts shares.alone.items) ≡ rows_of heap parts.parts (weights_from 0 heap.words (binaries_among heap.kinds) holders heap.own (length parts.parts)) =
    plain-rows heap parts.parts 0 (sorted_parts shares.alone.items) ∙ rows-sorted heap parts.parts shares.alone.items size ∙ ap (rows_of heap parts.parts) alone in
    rw (rows, are.shared, are.reached, are.own, of.count, of.parts) refl

-- ---- the cell at an address

-- what the parts of the cell hold that was found
pub address-found : (heap whole : SkeletonMap) (cells : List Cell) (most address : ℕ) (found : Option ℕ) → found ≡ position (λ a. a == address) heap.addresses → heap ≡ whole
    → option_map (cell_weighing heap cells most) found ≡ option_map (cell_weighing whole cells most) (position (λ a. a == address) whole.addresses)
address-found heap whole cells most address found is same =
    ap (option_map (cell_weighing heap cells most)) is ∙ ap (λ (h : SkeletonMap). option_map (cell_weighing h cells most) (position (λ a. a == address) h.addresses)) same
