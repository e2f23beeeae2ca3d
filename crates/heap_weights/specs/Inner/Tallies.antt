-- Counting what parts hold.
use Rattle.std.specs.Prelude.{◌≡◌, ℕ, ◌+◌, ◌*◌, ◌<◌, ◌≤◌, ◌^◌, ◌-◌, Bool, List, [], ◌∷◌, length, min, if◌then◌else◌, slice_index_or}
use Rattle.cell_graphs.specs.Counts.{one_if}
use Rattle.heap_weights.specs.declared.counted.Counted.{Counted}
use Rattle.heap_weights.specs.declared.holders.Holder.{Holder}
use Rattle.heap_weights.specs.declared.holders.Holder.TheVariants.{Nobody, Several, Part}
use Rattle.heap_weights.specs.declared.shares.Shares.{Shares}
use Rattle.heap_weights.specs.declared.shares.Weight.{Weight}
use Rattle.heap_weights.specs.Shares.{is_same, weight_of, words_below}

-- no cells
abbrev pub no_weight : Weight
no_weight = record { cells = 0; words = 0; binaries = 0 }

-- one cell more, with its words, which refers to a binary or not, if this is so
abbrev pub added_if : Bool → ℕ → Bool → Weight → Weight
added_if holds words binary weight = if holds then record {
  cells = min (weight.cells + 1) (2 ^ 32 - 1);
  words = min (weight.words + words) (2 ^ 128 - 1);
  binaries = min (weight.binaries + one_if binary) (2 ^ 32 - 1);
} else weight

-- what a part alone holds
abbrev pub alone_at : List Weight → ℕ → Weight
alone_at alone part = slice_index_or alone part no_weight

-- one cell more is held alone
pub record GainsAlone (holder : Holder) (words : ℕ) (binary : Bool) (old new : List Weight) : Type 0 where
  pub size : length new ≡ length old
  pub each : (part : ℕ) → alone_at new part ≡ added_if (is_same (Part part) holder) words binary (alone_at old part)

-- one cell more is counted
pub record Gains (holder : Holder) (words : ℕ) (binary : Bool) (old new : Counted) : Type 0 where
  pub alone : GainsAlone holder words binary old.alone.items new.alone.items
  pub shared : new.shared ≡ added_if (is_same Several holder) words binary old.shared
  pub unheld : new.unheld ≡ added_if (is_same Nobody holder) words binary old.unheld

-- what two sets of cells weigh together
abbrev pub sum_of : Weight → Weight → Weight
sum_of a b = record {
  cells = min (a.cells + b.cells) (2 ^ 32 - 1);
  words = min (a.words + b.words) (2 ^ 128 - 1);
  binaries = min (a.binaries + b.binaries) (2 ^ 32 - 1);
}

-- what several sets of cells weigh together, and a first one
abbrev pub all_of : Weight → List Weight → Weight
all_of first [] = first
all_of first (weight ∷ weights) = all_of (sum_of first weight) weights

-- the first n cells were counted, which have numbers of four bytes, and of which none has more words than a u64 counts
pub record HasCounted (words : List ℕ) (binaries : List Bool) (holders : ℕ → Holder) (parts n : ℕ) (counted : Counted) : Type 0 where
  pub few : n < 2 ^ 32
  pub small : (set : ℕ → Bool) → words_below words set n ≤ n * 2 ^ 64
  pub size : length counted.alone.items ≡ parts
  pub alone : (part : ℕ) → part < parts → alone_at counted.alone.items part ≡ weight_of words binaries holders (Part part) n
  pub shared : counted.shared ≡ weight_of words binaries holders Several n
  pub unheld : counted.unheld ≡ weight_of words binaries holders Nobody n

-- the parts reach what they hold alone and what they share, and the others are held by nobody
pub record AddUp (counted : Counted) (shares : Shares) : Type 0 where
  pub alone : shares.alone ≡ counted.alone
  pub shared : shares.shared ≡ counted.shared
  pub reached : shares.reached ≡ all_of counted.shared counted.alone.items
  pub own : shares.own ≡ sum_of shares.reached counted.unheld
