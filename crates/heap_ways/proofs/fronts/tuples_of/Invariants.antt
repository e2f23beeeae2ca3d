use Rattle.std.proofs.Common.{◌≡◌, take}
use Rattle.std.specs.Prelude.{filter}
use Rattle.heap_skeleton.specs.Skeletons.{is_tuple}
use Rattle.heap_ways.proofs.fronts.tuples_of.Given as goal

abbrev pub invariant-loop-cell : goal.invariant-loop-cell
invariant-loop-cell l = l.tuples.items ≡ filter (is_tuple l.skeleton) (take l.cell-index l.cells)
