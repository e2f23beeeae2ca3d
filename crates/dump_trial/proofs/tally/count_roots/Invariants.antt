use Rattle.std.proofs.Common.{◌≡◌, ◌+◌, ◌≤◌, length}
use Rattle.root_views.specs.Kinds.{roots_in}
use Rattle.dump_trial.specs.Tallies.{bad_roots}
use Rattle.dump_trial.proofs.tally.count_roots.Given as goal

-- the roots so far are counted, and those that are left come behind them
abbrev pub invariant-loop-found : goal.invariant-loop-found
invariant-loop-found l =
    let all = roots_in l.fn.kind l.body in
    goal.iterator-loop-found.can_next l.found-iterator
    × goal.iterator-loop-found.is_finite l.found-iterator
    × (l.walker ≡ l.fn.walker)
    × (l.roots + length l.found-iterator ≡ length all)
    × (l.bad + bad_roots l.fn.walker.heap.cells l.budget l.found-iterator ≡ bad_roots l.fn.walker.heap.cells l.budget all)
    × (l.bad ≤ l.roots)
