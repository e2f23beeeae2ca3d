use Rattle.std.proofs.Common.{◌≡◌, ◌+◌, ◌-◌, ◌≤◌, ◌++◌, length, drop}
use Rattle.body_lines.specs.Lines.{cut_lines}
use Rattle.heap_parts.specs.Inner.Hearing.{heard_binaries, heard_places}
use Rattle.heap_parts.proofs.address_sink.AddressSinkLineSink.lines.Given as goal

-- what was heard so far and what is left to hear are all lines
abbrev pub invariant-loop-done : goal.invariant-loop-done
invariant-loop-done l = record {
  within : l.done ≤ length l.run;
  heard : l.self.lines.items ++ heard_places (cut_lines 17 (l.at + l.done) (drop l.done l.run)) ≡ l.fn.self.lines.items ++ heard_places (cut_lines 17 l.at l.run);
  binaries : l.self.binaries.items ++ heard_binaries (cut_lines 17 (l.at + l.done) (drop l.done l.run)) ≡ l.fn.self.binaries.items ++ heard_binaries (cut_lines 17 l.at l.run);
}

abbrev pub decreases-loop-done : goal.decreases-loop-done
decreases-loop-done l = length l.run - l.done
