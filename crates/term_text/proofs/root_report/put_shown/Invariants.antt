use Rattle.std.proofs.Common.{◌≡◌, take}
use Rattle.std.specs.List.{flat_map}
use Rattle.dump_io.specs.Sinks.{HasPut}
use Rattle.term_text.specs.Roots.{answer_over, root_line}
use Rattle.term_text.proofs.root_report.put_shown.Given as goal

-- the lines of the roots so far are written
abbrev pub invariant-loop-i : goal.invariant-loop-i
invariant-loop-i g l =
    (l.walker ≡ l.fn.walker)
    × HasPut (g.K.Sink.state l.initial.sink) (g.K.Sink.state l.sink) (flat_map (root_line (answer_over l.fn.walker l.budget l.marked) l.base) (take l.i l.roots.shown))
