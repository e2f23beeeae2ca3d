use Rattle.std.proofs.Common.{◌≡◌, take, map}
use Rattle.tuple_fronts.specs.CellTexts.{inner_text}
use Rattle.tuple_fronts.proofs.cell_texts.inner_texts.Given as goal

-- the shapes of the cells so far
abbrev pub invariant-loop-cell : goal.invariant-loop-cell
invariant-loop-cell l = l.texts ≡ map (inner_text l.pids l.skeleton l.tuples) (take l.cell-index l.tuples.cells)
