-- Counting what a heap refers to.
use Rattle.std.specs.Prelude.{◌≡◌, ℕ, ◌+◌, ◌-◌, ◌^◌, ◌<◌, ◌≤◌, ◌==◌, Bool, ◌&&◌, List, [], ◌∷◌, ◌++◌, length, min, slice_index, if◌then◌else◌}
use Rattle.std.specs.List.{count_by}
use Rattle.binary_holders.specs.declared.counts.Counts.{Counts}
use Rattle.binary_holders.specs.declared.counts.HeapLines.{HeapLines}
use Rattle.binary_holders.specs.declared.heap_holders.Listed.{Listed}
use Rattle.binary_holders.specs.declared.heap_holders.Listed.TheVariants.{Holders, Users}
use Rattle.binary_holders.specs.declared.rows.Holding.{Holding}
use Rattle.binary_holders.specs.declared.targets.Binary.{Binary}
use Rattle.binary_holders.specs.declared.texts.Reference.{Reference}
use Rattle.text_groups.specs.Sums.{capped}
use Rattle.binary_holders.specs.Held.{bytes_held, cells_holding, first_cell, has_binaries, holds, holders_of, is_holder, whole_lines}
use Rattle.binary_holders.specs.HeapReferences.{numbers_referred}
use Rattle.binary_holders.specs.Inner.Places.{numbers_in}
use Rattle.binary_holders.specs.StoredBinaries.{is_among}

-- the number of the binary at a place; past the last one, 0
abbrev pub number_at : List Binary → ℕ → ℕ
number_at binaries k = slice_index (numbers_in binaries) k

-- what is known once the heaps of some processes were counted, and some references
-- of the next one: its turn; which binaries it holds so far;
-- how many heaps hold each; how many it holds, and of how many bytes
pub record HasCounted (binaries : List Binary) (heaps : List (List ℕ)) (references : List ℕ) (counts : Counts) : Type 0 where
  pub turn : counts.turn ≡ length heaps + 1
  pub seen_size : length counts.seen.items ≡ length binaries
  pub holders_size : length counts.holders.items ≡ length binaries
  pub upto : (k : ℕ) → slice_index counts.seen.items k ≤ counts.turn
  pub seen : (k : ℕ) → k < length binaries → (slice_index counts.seen.items k == counts.turn) ≡ is_among references (number_at binaries k)
  pub holders : (k : ℕ) → k < length binaries → slice_index counts.holders.items k ≡ holders_of (heaps ++ references ∷ []) (number_at binaries k)
  pub count : counts.count ≡ count_by (holds references) binaries
  pub total : counts.total ≡ bytes_held binaries references

-- no line of a heap
abbrev pub no_lines : HeapLines
no_lines = record { lines = 0; cells = 0; first = 0 }

-- these lines of a heap
abbrev pub heap_lines : List Binary → List Reference → HeapLines
heap_lines binaries lines = record {
  lines = capped (length lines);
  cells = capped (cells_holding binaries (numbers_referred lines));
  first = first_cell binaries lines;
}

-- the address of the first line that refers to one of the binaries, once a line with an address was counted
abbrev pub first_with : ℕ → Bool → HeapLines → ℕ
first_with address known heap = if known && (heap.cells == 0) then address else heap.first

-- the lines of a heap with one more, which has an address, and refers to one of the binaries or not
abbrev pub line_more : ℕ → Bool → HeapLines → HeapLines
line_more address known heap = record {
  lines = min (heap.lines + 1) (2 ^ 64 - 1);
  cells = min (heap.cells + (if known then 1 else 0)) (2 ^ 64 - 1);
  first = first_with address known heap;
}

-- what was counted for the process at a place, for which the node counted so many bytes
abbrev pub counted : ℕ → ℕ → Counts → Holding
counted process bytes counts = record {
  process = process;
  counted = bytes;
  bytes = capped counts.total;
  total = counts.total;
  count = counts.count;
  lines = counts.heap.lines;
  cells = counts.heap.cells;
  first = counts.heap.first;
}

-- which processes are listed: those that hold one of the binaries, or those that have any
abbrev pub is_listed : Listed → Holding → Bool
is_listed Holders = is_holder
is_listed Users = has_binaries

-- between two counts, these numbers were counted, to which lines refer
pub record AddsNumbers (binaries : List Binary) (old new : Counts) (more : List ℕ) : Type 0 where
  pub later : (heaps : List (List ℕ)) (references : List ℕ) → HasCounted binaries heaps references old → HasCounted binaries heaps (references ++ more) new

-- between two counts, these references were counted, and so were their lines
pub record Adds (binaries : List Binary) (old new : Counts) (more : List Reference) : Type 0 where
  pub numbers : AddsNumbers binaries old new (numbers_referred more)
  pub heap : (before : List Reference) → old.heap ≡ heap_lines binaries before → new.heap ≡ heap_lines binaries (before ++ more)
  pub lines : (before : List Reference) → old.lines ≡ whole_lines binaries before → new.lines ≡ whole_lines binaries (before ++ more)

-- the turn and the room for the binaries stay
pub record KeepsRoom (old new : Counts) : Type 0 where
  pub turn : new.turn ≡ old.turn
  pub seen : length new.seen.items ≡ length old.seen.items
  pub holders : length new.holders.items ≡ length old.holders.items

-- there is room for this many binaries, and the turn fits into 32 bits
pub record HasRoom (count : ℕ) (counts : Counts) : Type 0 where
  pub turn : counts.turn < 2 ^ 32
  pub seen : length counts.seen.items ≡ count
  pub holders : length counts.holders.items ≡ count
