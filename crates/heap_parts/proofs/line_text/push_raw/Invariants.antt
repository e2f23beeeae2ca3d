use Rattle.std.proofs.Common.{◌≡◌, ◌-◌, ◌≤◌, List, ℕ, length}
use Rattle.std.specs.List.{between}
use Rattle.dump_io.specs.Dumps.{told, ReadsAtMost}
use Rattle.heap_parts.proofs.ReadFacts.{HasRead}
use Rattle.heap_parts.proofs.line_text.push_raw.Given as goal

abbrev pub invariant-loop-at : goal.invariant-loop-at
invariant-loop-at g l =
    let d = g.D.Dumps in
    record {
      same : (d.state l.dumps).now ≡ (d.state l.fn.dumps).now;
      order : l.from ≤ l.at;
      inside : l.at ≤ l.upto;
      few : length l.lines.items ≤ l.limit;
      longer : length l.fn.lines.items ≤ length l.lines.items;
      reads : ReadsAtMost (d.state l.fn.dumps) (d.state l.dumps) (length l.lines.items - length l.fn.lines.items);
      read : (dump : List ℕ) → (d.state l.fn.dumps).now ≡ told dump → HasRead l.fn.lines.items l.lines.items (between l.from l.at dump);
    }

abbrev pub decreases-loop-at : goal.decreases-loop-at
decreases-loop-at g l = l.upto - l.at
