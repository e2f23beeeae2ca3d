use Rattle.std.proofs.Common.{◌≡◌, ◌+◌, ◌≤◌}
use Rattle.heap_reach.specs.Reached.{is_in}
use Rattle.heap_reach.specs.Unreached.{count_below}
use Rattle.term_text.proofs.reach_report.count_reached.Given as goal

abbrev pub invariant-loop-n : goal.invariant-loop-n
invariant-loop-n l =
    (l.count + count_below (is_in l.reach.marks) l.first ≡ count_below (is_in l.reach.marks) l.n)
    × (l.count ≤ l.n)
