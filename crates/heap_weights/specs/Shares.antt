-- How many cells and words are held.
use Rattle.std.specs.Prelude.{◌≡◌, ℕ, zero, suc, ◌+◌, ◌==◌, ◌&&◌, Bool, true, false, List, [], ◌∷◌, length}
use Rattle.cell_graphs.specs.Counts.{count_below}
use Rattle.cell_graphs.specs.Graphs.{Graph}
use Rattle.heap_graph.specs.Binaries.{binary_at}
use Rattle.heap_graph.specs.Words.{words_at}
use Rattle.heap_graph.specs.Words.{words_at}
use Rattle.heap_weights.specs.declared.holders.Holder.{Holder}
use Rattle.heap_weights.specs.declared.holders.Holder.TheVariants.{Several, Part}
use Rattle.heap_weights.specs.declared.shares.Shares.{Shares}
use Rattle.heap_weights.specs.declared.shares.Weight.{Weight}
use Rattle.heap_weights.specs.Holders.{is_held, label_of}
use Rattle.heap_weights.specs.Parts.{holder_of}

-- the words, if this is so
abbrev pub words_if : Bool → ℕ → ℕ
words_if true words = words
words_if false words = 0

-- how many words those of the first n cells have that are in a set
abbrev pub words_below : List ℕ → (ℕ → Bool) → ℕ → ℕ
words_below words set zero = 0
words_below words set (suc n) = words_below words set n + words_if (set n) (words_at words n)

-- how many of the first n cells are in a set, how many words these have, and how many of them refer to binaries
abbrev pub weight_below : List ℕ → List Bool → (ℕ → Bool) → ℕ → Weight
weight_below words binaries set n = record {
  cells = count_below set n;
  words = words_below words set n;
  binaries = count_below (λ k. set k && binary_at binaries k) n;
}

-- whether two holders are the same
abbrev pub is_same : Holder → Holder → Bool
is_same a b = label_of a == label_of b

-- the cells of one holder among the first n
abbrev pub weight_of : List ℕ → List Bool → (ℕ → Holder) → Holder → ℕ → Weight
weight_of words binaries holders holder n = weight_below words binaries (λ k. is_same holder (holders k)) n

-- what each of so many parts alone holds, given the number of the first
abbrev pub weights_from : ℕ → List ℕ → List Bool → (ℕ → Holder) → ℕ → ℕ → List Weight
weights_from part words binaries holders n zero = []
weights_from part words binaries holders n (suc count) =
    weight_of words binaries holders (Part part) n ∷ weights_from (suc part) words binaries holders n count

-- what so many parts hold of the first n cells
pub record AreSharesFor (words : List ℕ) (binaries : List Bool) (holders : ℕ → Holder) (parts n : ℕ) (shares : Shares) : Type 0 where
  -- what each of the parts alone holds
  pub alone : shares.alone.items ≡ weights_from 0 words binaries holders n parts
  -- what two or more of the parts hold
  pub shared : shares.shared ≡ weight_of words binaries holders Several n
  -- what one or more of the parts hold
  pub reached : shares.reached ≡ weight_below words binaries (λ k. is_held (holders k)) n
  -- all that there is, whoever holds it
  pub own : shares.own ≡ weight_below words binaries (λ k. true) n

-- what the parts with these roots hold of the first n cells
abbrev pub AreShares : Graph → List ℕ → List Bool → ℕ → List ℕ → Shares → Type 0
AreShares graph words binaries n roots shares = AreSharesFor words binaries (holder_of graph roots) (length roots) n shares
