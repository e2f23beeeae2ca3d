use Rattle.std.proofs.Common.{◌≡◌, ℕ, List, ◌++◌}
use Rattle.std.specs.List.{flat_map}
use Rattle.dump_io.specs.Sinks.{HasPut}
use Rattle.glance_text.specs.Triage.{dump_line, dump_lines}
use Rattle.glance_text.proofs.triage_report.put_dump.Given as goal

-- the lines of the fields so far are written, and those of the lines that are left come behind them
abbrev pub invariant-loop-line : goal.invariant-loop-line
invariant-loop-line g l =
    (goal.iterator-loop-line g).can_next l.line-iterator
    × (goal.iterator-loop-line g).is_finite l.line-iterator
    × ((written : List ℕ) × HasPut (g.K.Sink.state l.initial.sink) (g.K.Sink.state l.sink) written
    × (written ++ flat_map (dump_line l.slogan) l.line-iterator ≡ dump_lines l.body))
