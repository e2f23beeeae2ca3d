-- Labelled cells, and those of them that wait to be visited.
use Rattle.std.specs.Prelude.{◌≡◌, ℕ, ◌==◌, ◌⊎◌, Bool, true, false, List, length, map}
use Rattle.cell_graphs.specs.Frontiers.{Frontier, Adds}
use Rattle.heap_weights.specs.declared.holders.Holder.{Holder}
use Rattle.heap_weights.specs.declared.holders.Holder.TheVariants.{Nobody, Several, Part}
use Rattle.heap_weights.specs.Holders.{held_too, holder_at}

-- who holds each of the cells, the number of the part that walks, and the cells that wait
pub record Labelling : Type 0 where
  pub holders : List Holder
  pub part : ℕ
  -- for how many entries memory has been taken
  pub reserved : ℕ
  -- the cells that wait, the one that came last first
  pub waiting : List ℕ

-- whether the walk of a part leads no further from a cell with this holder
abbrev pub is_stop : ℕ → Holder → Bool
is_stop part Nobody = false
is_stop part Several = true
is_stop part (Part other) = other == part

-- whether the walk of the current part leads no further from the cell with a number
abbrev pub is_stopped : Labelling → ℕ → Bool
is_stopped labels n = is_stop labels.part (holder_at labels.holders n)

-- the cells from which the walk of a part leads no further, as marks
abbrev pub marks_of : ℕ → List Holder → List Bool
marks_of part holders = map (is_stop part) holders

-- the walk of one part as one over marked cells
abbrev pub frontier : Labelling → Frontier
frontier labels = record { marks = marks_of labels.part labels.holders; reserved = labels.reserved; waiting = labels.waiting }

-- a holder is as before, or the part has come to a cell at which it didn't stop
abbrev pub IsTurned : ℕ → Holder → Holder → Type 0
IsTurned part before after = (after ≡ before) ⊎ ((is_stop part before ≡ false) × (after ≡ held_too part before))

-- what a walk does to the holders
pub record Walks (old new : Labelling) : Type 0 where
  pub part : new.part ≡ old.part
  pub reserved : new.reserved ≡ old.reserved
  pub turned : (n : ℕ) → IsTurned old.part (holder_at old.holders n) (holder_at new.holders n)

-- the part comes to the cells of a set
pub record Takes (old new : Labelling) (P : ℕ → Type 0) : Type 0 where
  pub adds : Adds (frontier old) (frontier new) P
  pub size : length new.holders ≡ length old.holders
  pub walks : Walks old new
