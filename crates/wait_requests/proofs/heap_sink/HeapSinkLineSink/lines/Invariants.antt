use Rattle.std.proofs.Common.{◌≡◌, ◌+◌, ◌-◌, ◌≤◌, length, drop}
use Rattle.wait_requests.specs.Inner.Hearing.{before_lines, KeepsAsked}
use Rattle.wait_requests.proofs.heap_sink.HeapSinkLineSink.lines.Given as goal

-- what is found among all lines is found among those that are left to hear
abbrev pub invariant-loop-done : goal.invariant-loop-done
invariant-loop-done l = record {
  within : l.done ≤ length l.run;
  keeps : KeepsAsked l.fn.self l.self;
  rest : before_lines l.self (l.at + l.done) (drop l.done l.run) ≡ before_lines l.fn.self l.at l.run;
}

abbrev pub decreases-loop-done : goal.decreases-loop-done
decreases-loop-done l = length l.run - l.done
