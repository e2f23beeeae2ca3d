use Rattle.std.proofs.Common.{◌≡◌, ℕ, ◌+◌, List, ◌++◌, length}
use Rattle.std.specs.Prelude.{All}
use Rattle.std.specs.List.{flat_map}
use Rattle.dump_io.specs.Sinks.{HasPut}
use Rattle.root_views.specs.Kinds.{roots_in}
use Rattle.root_views.specs.Roots.{IsInside}
use Rattle.term_text.specs.Roots.{answer_over, root_line}
use Rattle.term_text.proofs.root_report.put_each.Given as goal

-- the lines of the roots so far are written and counted, and those of the roots that are left come behind them
abbrev pub invariant-loop-found : goal.invariant-loop-found
invariant-loop-found g l =
    let line = root_line (answer_over l.fn.walker l.budget l.marked) l.base in
    let all = roots_in l.fn.kind l.body in
    (goal.iterator-loop-found g).can_next l.found-iterator
    × (goal.iterator-loop-found g).is_finite l.found-iterator
    × All (IsInside l.body) l.found-iterator
    × (l.walker ≡ l.fn.walker)
    × (l.count + length l.found-iterator ≡ length all)
    × ((written : List ℕ) × HasPut (g.K.Sink.state l.initial.sink) (g.K.Sink.state l.sink) written
    × (written ++ flat_map line l.found-iterator ≡ flat_map line all))
