use Rattle.std.proofs.Common.{◌-◌, ◌≤◌, length}
use Rattle.dump_io.specs.Dumps.{ReadsAtMost}
use Rattle.body_lines.specs.Lines.{lines_at}
use Rattle.body_lines.proofs.Readings.{HasRead}
use Rattle.body_lines.proofs.whole_lines.hear_whole_lines.Given as goal

-- the bytes up to `at` were read, and the lines that end in them heard; what was read of the open line is in the buffer
abbrev pub invariant-loop-at : goal.invariant-loop-at
invariant-loop-at g l =
    let d = g.D.Dumps in
    let r = g.R.WholeLineSink in
    record {
      room : l.at - l.line ≤ length l.buffer.items;
      from : l.from ≤ l.line;
      line : l.line ≤ l.at;
      inside : l.at ≤ l.upto;
      ready : r.ready l.sink;
      reads : ReadsAtMost (d.state l.initial.dumps) (d.state l.dumps) (l.at - l.from);
      read : HasRead r.hears lines_at l.initial.sink l.sink (d.state l.initial.dumps).now (l.upto - l.from) l.from l.line l.at l.buffer.items;
    }

abbrev pub decreases-loop-at : goal.decreases-loop-at
decreases-loop-at g l = l.upto - l.at
