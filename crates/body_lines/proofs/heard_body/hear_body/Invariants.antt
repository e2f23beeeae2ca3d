use Rattle.std.proofs.Common.{◌-◌, ◌<◌, ◌≤◌, length}
use Rattle.dump_io.specs.Dumps.{ReadsAtMost}
use Rattle.body_lines.specs.Lines.{cut_lines}
use Rattle.body_lines.proofs.Readings.{HasRead}
use Rattle.body_lines.proofs.heard_body.hear_body.Given as goal

-- the bytes up to `at` were read, and the lines that end in them heard
abbrev pub invariant-loop-at : goal.invariant-loop-at
invariant-loop-at g l =
    let d = g.D.Dumps in
    let r = g.R.LineSink in
    record {
      room : r.kept < length l.buffer;
      from : l.from ≤ l.at;
      line : l.line ≤ l.at;
      inside : l.at ≤ l.upto;
      ready : r.ready l.sink;
      reads : ReadsAtMost (d.state l.initial.dumps) (d.state l.dumps) (l.at - l.from);
      read : HasRead r.hears (cut_lines r.kept) l.initial.sink l.sink (d.state l.initial.dumps).now r.kept l.from l.line l.at l.buffer;
    }

abbrev pub decreases-loop-at : goal.decreases-loop-at
decreases-loop-at g l = l.upto - l.at
