-- One part after another walks.
use Rattle.std.specs.Prelude.{◌≡◌, ℕ, ◌+◌, ◌<◌, Bool, true, List, [], ◌∷◌, length, slice_set}
use Rattle.cell_graphs.specs.Graphs.{Graph, Leads}
use Rattle.heap_weights.specs.declared.holders.Holder.{Holder}
use Rattle.heap_weights.specs.Holders.{held_too, holder_at, is_held, is_several, label_of}
use Rattle.heap_weights.specs.Labels.{Labelling}
use Rattle.heap_weights.specs.Parts.{holder_of}

-- the part comes to a cell
abbrev pub pushed : ℕ → Labelling → Labelling
pushed cell labels = record {
  holders = slice_set labels.holders cell (held_too labels.part (holder_at labels.holders cell));
  part = labels.part;
  reserved = labels.reserved;
  waiting = cell ∷ labels.waiting;
}

-- the cells whose holders pass a test are a closed set
abbrev pub IsShut : Graph → List Holder → (Holder → Bool) → Type 0
IsShut graph holders test = (m n : ℕ) → test (holder_at holders m) ≡ true → Leads graph m n → test (holder_at holders n) ≡ true

-- no part walks, and so many have walked
pub record IsRested (graph : Graph) (count : ℕ) (labels : Labelling) : Type 0 where
  pub size : length labels.holders ≡ length graph
  pub room : labels.reserved ≡ length graph
  pub empty : labels.waiting ≡ []
  pub held : IsShut graph labels.holders is_held
  pub several : IsShut graph labels.holders is_several
  -- each part among the holders has walked
  pub walked : (n : ℕ) → label_of (holder_at labels.holders n) < count + 2

-- each cell is held as the parts with these roots hold it
abbrev pub AreHeldBy : Graph → Labelling → List ℕ → Type 0
AreHeldBy graph labels roots = (n : ℕ) → holder_at labels.holders n ≡ holder_of graph roots n
