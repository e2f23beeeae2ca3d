use Rattle.std.proofs.Common.{None, map, take}
use Rattle.tuple_fronts.specs.Inner.Kept.{Keeps}
use Rattle.tuple_fronts.proofs.front_lines.keep_none.Given as goal

abbrev pub invariant-loop-cell : goal.invariant-loop-cell
invariant-loop-cell l = Keeps l.fn.kept l.kept (map (λ _. None) (take l._cell-index l.cells))
