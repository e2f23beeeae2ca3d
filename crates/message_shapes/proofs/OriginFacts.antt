-- The cells to which messages refer are cells of the heap.
use Rattle.std.proofs.Common.{ℕ, ◌<◌, List, [], ◌∷◌}
use Rattle.std.specs.Prelude.{All}
use Rattle.std.proofs.lemmas.List.Elements.{All-append, All-cons, All-head, All-nil, All-tail}
use Rattle.message_shapes.specs.Inner.Telling.{origin_cells, told_cells, AreCells, IsCell, IsOriginWithin, Origin, OfCell, OfText, Told}

origin-within : (size : ℕ) (o : Origin) → IsOriginWithin size o → All (λ n. n < size) (origin_cells o)
origin-within size (OfCell cell) below = All-cons (λ n. n < size) cell [] below (All-nil (λ n. n < size))
origin-within size (OfText text) below = All-nil (λ n. n < size)

-- the cells to which messages refer
pub cells-within : (size : ℕ) (all : List Told) → AreCells size all → All (λ n. n < size) (told_cells all)
cells-within size [] are = All-nil (λ n. n < size)
cells-within size (told ∷ all) are =
    All-append (λ n. n < size) (origin_cells told.source) (told_cells all)
    (origin-within size told.source (All-head (IsCell size) told all are).within)
    (cells-within size all (All-tail (IsCell size) told all are))
