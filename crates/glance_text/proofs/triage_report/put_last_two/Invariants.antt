use Rattle.std.proofs.Common.{◌≡◌, ◌-◌, ℕ, List, ◌++◌, drop, length}
use Rattle.std.specs.List.{flat_map}
use Rattle.dump_io.specs.Sinks.{HasPut}
use Rattle.dump_sections.specs.Index.{sections_in}
use Rattle.glance_text.specs.Triage.{last_line}
use Rattle.glance_text.proofs.triage_report.put_last_two.Given as goal

-- the lines of the sections so far are written, and those of the others come behind them
abbrev pub invariant-loop-i : goal.invariant-loop-i
invariant-loop-i g l =
    let sections = sections_in l.index in
    (written : List ℕ) × HasPut (g.K.Sink.state l.initial.sink) (g.K.Sink.state l.sink) written
    × (written ++ flat_map last_line (drop l.i sections) ≡ flat_map last_line (drop (length sections - 2) sections))
