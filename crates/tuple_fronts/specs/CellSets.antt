-- Cells by their numbers and by their addresses.
use Rattle.std.specs.Prelude.{ℕ, ◌==◌, List, position, Option}

-- the place of a number in a list
abbrev pub place_of : List ℕ → ℕ → Option ℕ
place_of numbers n = position (λ m. m == n) numbers

-- the number of the cell with an address, given the addresses of all
abbrev pub cell_with : List ℕ → ℕ → Option ℕ
cell_with addresses address = position (λ a. a == address) addresses
