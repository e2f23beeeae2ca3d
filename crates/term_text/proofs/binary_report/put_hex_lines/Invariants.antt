use Rattle.std.proofs.Common.{◌≡◌, ℕ, List, ◌++◌, length}
use Rattle.dump_io.specs.Sinks.{HasPut}
use Rattle.term_text.specs.Roots.{hex_lines, line_count}
use Rattle.term_text.proofs.binary_report.put_hex_lines.Given as goal

-- the lines so far are written, and those of the bytes that are left come behind them
abbrev pub invariant-loop-rest : goal.invariant-loop-rest
invariant-loop-rest g l =
    (written : List ℕ) × HasPut (g.K.Sink.state l.initial.sink) (g.K.Sink.state l.sink) written
    × (written ++ hex_lines (line_count l.rest) l.rest ≡ hex_lines (line_count l.bytes) l.bytes)

abbrev pub decreases-loop-rest : goal.decreases-loop-rest
decreases-loop-rest g l = length l.rest
