-- The first cells of a list, and the first cell with an address.
use Rattle.std.proofs.Common.{◌≡◌, ℕ, ◌<◌, ◌==◌, cond, true, false, List, [], ◌∷◌, ◌++◌, length, None, Some, sym, ◌∙◌, ap, append_assoc}
use Rattle.std.specs.List.{list_any}
use Rattle.std.proofs.lemmas.List.{append-nil}
use Rattle.std.proofs.lemmas.List.Quantifiers.{position-Some}
use Rattle.heap_cells.specs.Cells.{Cell, addresses, first_cells}
use Rattle.heap_cells.specs.HeapMap.{number_at}

-- the first cells of two lists in a row
pub first_cells-append : (seen : List ℕ) (xs ys : List Cell) → first_cells seen (xs ++ ys) ≡ first_cells seen xs ++ first_cells (seen ++ addresses xs) ys
first_cells-append seen [] ys = ap (λ l. first_cells l ys) (sym (append-nil seen))
first_cells-append seen (cell ∷ xs) ys =
    let more = seen ++ cell.address ∷ [] in
    let later = first_cells-append more xs ys ∙ ap (λ l. first_cells more xs ++ first_cells l ys) (append_assoc seen (cell.address ∷ []) (addresses xs)) in
    elim (list_any (λ address. address == cell.address) seen) as (λ b. cond b (first_cells more (xs ++ ys)) (cell ∷ first_cells more (xs ++ ys))
    ≡ cond b (first_cells more xs) (cell ∷ first_cells more xs) ++ first_cells (seen ++ addresses (cell ∷ xs)) ys) [
      | true ↦ later
      | false ↦ ap (λ l. cell ∷ l) later
    ]

-- a number with which an address is found is that of a cell
pub number_at-within : (cells : List Cell) (address n : ℕ) → number_at cells address ≡ Some n → n < length cells
number_at-within cells address n is = (position-Some (λ cell. cell.address == address) cells n (record { address = 0; form = None }) is).0
