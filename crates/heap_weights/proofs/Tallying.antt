-- Counting what parts hold, one cell after another.
use Rattle.std.proofs.Common.{◌≡◌, ℕ, zero, suc, ◌+◌, ◌*◌, ◌<◌, ◌≤◌, ◌^◌, Bool, true, false, List, [], ◌∷◌, length, get_or, refl, ◌∙◌, ap, ap₂, subst, arith}
use Rattle.std.specs.Prelude.{◌&&◌}
use Rattle.std.specs.Global.{Vec}
use Rattle.std.proofs.Math.Path.{fun_ext}
use Rattle.cell_graphs.specs.Counts.{count_below, one_if}
use Rattle.cell_graphs.specs.Graphs.{Graph}
use Rattle.cell_graphs.specs.Laws.Closing.{count-most}
use Rattle.heap_graph.specs.Binaries.{binary_at}
use Rattle.heap_graph.specs.Words.{words_at}
use Rattle.heap_weights.specs.declared.counted.Counted.{Counted}
use Rattle.heap_weights.specs.declared.holders.Holder.{Holder}
use Rattle.heap_weights.specs.declared.holders.Holder.TheVariants.{Nobody, Several, Part}
use Rattle.heap_weights.specs.declared.shares.Shares.{Shares}
use Rattle.heap_weights.specs.declared.shares.Weight.{Weight}
use Rattle.heap_weights.specs.Holders.{holder_at, is_held, label_of}
use Rattle.heap_weights.specs.Parts.{holder_of}
use Rattle.heap_weights.specs.Shares.{AreShares, AreSharesFor, is_same, weight_below, weight_of, weights_from, words_below, words_if}
use Rattle.heap_weights.specs.Labels.{Labelling}
use Rattle.heap_weights.specs.Inner.Labels.{AreHeldBy, IsRested}
use Rattle.heap_weights.specs.Inner.Tallies.{AddUp, Gains, HasCounted, added_if, all_of, alone_at, no_weight, sum_of}
use Rattle.heap_weights.proofs.Joining.{all-own, all-reached, weight-same}

-- ---- one cell more

words-most : (b : Bool) (words : ℕ) → words_if b words ≤ words
words-most true words = omega arith
words-most false words = omega arith

small-more : (words : List ℕ) (set : ℕ → Bool) (n : ℕ) → words_below words set n ≤ n * 2 ^ 64 → words_at words n < 2 ^ 64 → words_below words set (suc n) ≤ suc n * 2 ^ 64
small-more words set n small less = let here = words-most (set n) (words_at words n) in omega (arith, small, less, here)

one-most : (b : Bool) → one_if b ≤ 1
one-most true = omega arith
one-most false = omega arith

added-below : (b binary : Bool) (count sum found words n : ℕ) → count ≤ n → found ≤ n → n + 1 < 2 ^ 32 → sum ≤ n * 2 ^ 64 → words < 2 ^ 64
    → added_if b words binary (record { cells = count; words = sum; binaries = found }) ≡ record { cells = count + one_if b; words = sum + words_if b words; binaries = found + one_if (b && binary) }
added-below true binary count sum found words n most fewer few small less =
    let one = one-most binary in weight-same _ _ _ _ _ _ (omega (arith, most, few)) (omega (arith, few, small, less)) (omega (arith, fewer, few, one))
added-below false binary count sum found words n most fewer few small less = weight-same _ _ _ _ _ _ (omega arith) (omega arith) (omega arith)

weight-more : (words : List ℕ) (binaries : List Bool) (set : ℕ → Bool) (n here : ℕ) (binary : Bool) (old new : Weight) → n + 1 < 2 ^ 32 → here < 2 ^ 64 → here ≡ words_at words n → binary ≡ binary_at binaries n
    → words_below words set n ≤ n * 2 ^ 64 → old ≡ weight_below words binaries set n → new ≡ added_if (set n) here binary old → new ≡ weight_below words binaries set (suc n)
weight-more words binaries set n here binary old new few less same marked small was is =
    let found : ℕ → Bool = λ k. set k && binary_at binaries k in
    is
    ∙ ap (added_if (set n) here binary) was
    ∙ added-below (set n) binary (count_below set n) (words_below words set n) (count_below found n) here n (count-most set n) (count-most found n) few small less
    ∙ ap₂ (λ k b. record { cells = count_below set n + one_if (set n); words = words_below words set n + words_if (set n) k; binaries = count_below found n + one_if (set n && b) }) same marked

pub HasCounted-none : (words : List ℕ) (binaries : List Bool) (holders : ℕ → Holder) (parts : ℕ) (counted : Counted) → length counted.alone.items ≡ parts
    → ((part : ℕ) → alone_at counted.alone.items part ≡ no_weight) → counted.shared ≡ no_weight → counted.unheld ≡ no_weight → HasCounted words binaries holders parts 0 counted
HasCounted-none words binaries holders parts counted size alone shared unheld = record {
  few = omega arith;
  small = λ set. omega arith;
  size = size;
  alone = λ part less. alone part;
  shared = shared;
  unheld = unheld;
}

pub HasCounted-more : (words : List ℕ) (binaries : List Bool) (holders : ℕ → Holder) (parts n here : ℕ) (binary : Bool) (old new : Counted) → n + 1 < 2 ^ 32 → here < 2 ^ 64 → here ≡ words_at words n → binary ≡ binary_at binaries n
    → HasCounted words binaries holders parts n old → Gains (holders n) here binary old new → HasCounted words binaries holders parts (suc n) new
HasCounted-more words binaries holders parts n here binary old new few less same marked counted gains = record {
  few = omega (arith, few);
  small = λ set. small-more words set n (counted.small set) (subst (λ k. k < 2 ^ 64) same less);
  size = gains.alone.size ∙ counted.size;
  alone = λ part known.
      weight-more words binaries (λ k. is_same (Part part) (holders k)) n here binary (alone_at old.alone.items part) (alone_at new.alone.items part) few less same marked
      (counted.small (λ k. is_same (Part part) (holders k))) (counted.alone part known) (gains.alone.each part);
  shared =
      weight-more words binaries (λ k. is_same Several (holders k)) n here binary old.shared new.shared few less same marked (counted.small (λ k. is_same Several (holders k))) counted.shared gains.shared;
  unheld =
      weight-more words binaries (λ k. is_same Nobody (holders k)) n here binary old.unheld new.unheld few less same marked (counted.small (λ k. is_same Nobody (holders k))) counted.unheld gains.unheld;
}

-- ---- all cells

weights-list : (words : List ℕ) (binaries : List Bool) (holders : ℕ → Holder) (n part count : ℕ) (items : List Weight) → length items ≡ count
    → ((i : ℕ) → i < count → get_or items i no_weight ≡ weight_of words binaries holders (Part (part + i)) n) → items ≡ weights_from part words binaries holders n count
weights-list words binaries holders n part zero [] size each = refl
weights-list words binaries holders n part zero (x ∷ xs) size each = absurd (omega (arith, size))
weights-list words binaries holders n part (suc count) [] size each = absurd (omega (arith, size))
weights-list words binaries holders n part (suc count) (x ∷ xs) size each =
    let first : x ≡ weight_of words binaries holders (Part part) n = each 0 (omega arith) ∙ ap (λ k. weight_of words binaries holders (Part k) n) (let same : part + 0 ≡ part = omega arith in same) in
    let rest : xs ≡ weights_from (suc part) words binaries holders n count =
    weights-list words binaries holders n (suc part) count xs (omega (arith, size))
    (λ i less. each (suc i) (omega (arith, less)) ∙ ap (λ k. weight_of words binaries holders (Part k) n) (let same : part + suc i ≡ suc part + i = omega arith in same)) in
    ap (λ y. y ∷ xs) first ∙ ap (λ ys. weight_of words binaries holders (Part part) n ∷ ys) rest

-- the sums of what was counted
shares-counted : (words : List ℕ) (binaries : List Bool) (holders : ℕ → Holder) (parts n : ℕ) (counted : Counted) (shares : Shares) → ((k : ℕ) → label_of (holders k) < parts + 2)
    → HasCounted words binaries holders parts n counted → AddUp counted shares → AreSharesFor words binaries holders parts n shares
shares-counted words binaries holders parts n counted shares known has sums =
    let alone : counted.alone.items ≡ weights_from 0 words binaries holders n parts =
    weights-list words binaries holders n 0 parts counted.alone.items has.size
    (λ i less. has.alone i less ∙ ap (λ k. weight_of words binaries holders (Part k) n) (let place : i ≡ 0 + i = omega arith in place)) in
    let reached : shares.reached ≡ weight_below words binaries (λ k. is_held (holders k)) n = sums.reached ∙ ap₂ all_of has.shared alone ∙ all-reached words binaries n has.few has.small holders parts known in
    record {
      alone = ap (λ (v : Vec Weight). v.items) sums.alone ∙ alone;
      shared = sums.shared ∙ has.shared;
      reached = reached;
      own = sums.own ∙ ap₂ sum_of reached has.unheld ∙ all-own words binaries n has.few has.small holders;
    }

-- what the parts with these roots hold
pub shares-held : (graph : Graph) (words : List ℕ) (binaries : List Bool) (own parts : ℕ) (labels : Labelling) (roots : List ℕ) (counted : Counted) (shares : Shares) → parts ≡ length roots
    → IsRested graph parts labels → AreHeldBy graph labels roots → HasCounted words binaries (holder_at labels.holders) parts own counted → AddUp counted shares → AreShares graph words binaries own roots shares
shares-held graph words binaries own parts labels roots counted shares count rested held has sums =
    subst (λ k. AreSharesFor words binaries (holder_of graph roots) k own shares) count
    (subst (λ holders. AreSharesFor words binaries holders parts own shares) (fun_ext held) (shares-counted words binaries (holder_at labels.holders) parts own counted shares rested.walked has sums))
