use Rattle.std.proofs.Common.{◌≡◌, take, map}
use Rattle.tuple_fronts.specs.CellTexts.{subject_text}
use Rattle.tuple_fronts.proofs.cell_texts.subject_texts.Given as goal

-- the shapes of the cells so far
abbrev pub invariant-loop-cell : goal.invariant-loop-cell
invariant-loop-cell l = l.texts ≡ map (subject_text l.pids l.skeleton l.tuples) (take l.cell-index l.cells)
