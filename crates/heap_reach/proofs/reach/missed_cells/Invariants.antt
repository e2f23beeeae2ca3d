use Rattle.std.proofs.Common.{◌≡◌}
use Rattle.cell_graphs.specs.Reached.{is_in}
use Rattle.heap_reach.specs.Unreached.{missed_below}
use Rattle.heap_weights.specs.Labels.{frontier}
use Rattle.heap_reach.proofs.reach.missed_cells.Given as goal

abbrev pub invariant-loop-n : goal.invariant-loop-n
invariant-loop-n l = l.found.items ≡ missed_below l.heap.cells (is_in (frontier l.labels).marks) l.n
