-- The addresses of the cells that aren't in a set. A set of cells is a test of their numbers.
use Rattle.std.specs.Prelude.{◌≡◌, ◌↔◌, Contains, ℕ, zero, suc, ◌<◌, ◌==◌, nat_lt, Bool, false, if◌then◌else◌, List, [], ◌∷◌, ◌++◌, Option, Some}
use Rattle.heap_cells.specs.Cells.{Cell}
use Rattle.heap_cells.specs.HeapMap.{HeapMap, address_at}
pub use Rattle.cell_graphs.specs.Counts.{count_below, one_if}

-- the address, unless the cell is in the set
abbrev pub missed : Bool → Option ℕ → List ℕ
missed false (Some address) = address ∷ []
missed in_set address = []

-- the addresses of those of the first n cells that aren't in the set, in the order of the cells
abbrev pub missed_below : List Cell → (ℕ → Bool) → ℕ → List ℕ
missed_below cells set zero = []
missed_below cells set (suc n) = missed_below cells set n ++ missed (set n) (address_at cells n)

-- the address is that of one of the first n cells, which isn't in the set
pub record IsMissed (cells : List Cell) (set : ℕ → Bool) (count address : ℕ) : Type 0 where
  pub number : ℕ
  pub own : number < count
  pub off : set number ≡ false
  pub here : address_at cells number ≡ Some address

-- these are the addresses of the heap's own cells that aren't in the set
abbrev pub AreMissed : HeapMap → (ℕ → Bool) → List ℕ → Type 0
AreMissed heap set addresses = (address : ℕ) → Contains addresses address ↔ IsMissed heap.cells set heap.own address

-- a number inserted among numbers that rise
abbrev pub inserted : ℕ → List ℕ → List ℕ
inserted x [] = x ∷ []
inserted x (y ∷ ys) = if x == y then y ∷ ys else (if nat_lt x y then x ∷ y ∷ ys else y ∷ inserted x ys)

-- the numbers of a list, ascending and each once
abbrev pub ascending : List ℕ → List ℕ
ascending [] = []
ascending (x ∷ xs) = inserted x (ascending xs)

-- the addresses of a heap's own cells that aren't in the set, ascending
abbrev pub unreached_of : HeapMap → (ℕ → Bool) → List ℕ
unreached_of heap set = ascending (missed_below heap.cells set heap.own)
