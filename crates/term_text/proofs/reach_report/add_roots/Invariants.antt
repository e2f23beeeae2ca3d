use Rattle.std.proofs.Common.{◌≡◌, List, ◌++◌}
use Rattle.term_forms.specs.Elements.{Element}
use Rattle.root_views.specs.Kinds.{roots_in}
use Rattle.heap_reach.specs.Rounds.{IsReachOf}
use Rattle.term_text.specs.Reach.{root_elements}
use Rattle.term_text.proofs.reach_report.add_roots.Given as goal

-- what the terms so far reach is added, and those of the roots that are left come behind them
abbrev pub invariant-loop-found : goal.invariant-loop-found
invariant-loop-found l =
    goal.iterator-loop-found.can_next l.found-iterator
    × goal.iterator-loop-found.is_finite l.found-iterator
    × (l.reach.heap ≡ l.fn.reach.heap)
    × ((terms : List Element) × (terms ++ root_elements l.found-iterator ≡ root_elements (roots_in l.fn.kind l.body))
    × ((roots : List Element) → IsReachOf l.fn.reach roots → IsReachOf l.reach (roots ++ terms)))
