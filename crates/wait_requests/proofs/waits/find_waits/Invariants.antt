use Rattle.std.proofs.Common.{◌≡◌, ◌<◌, length, take}
use Rattle.dump_io.specs.Dumps.{IfTold, ReadsAtMost}
use Rattle.wait_requests.specs.Waits.{targets_of, waits_length}
use Rattle.wait_requests.proofs.waits.find_waits.Given as goal

-- for whom the processes so far wait was read
abbrev pub invariant-loop-p : goal.invariant-loop-p
invariant-loop-p g l =
    let d = g.D.Dumps in
    record {
      room : 4134 < length l.lines;
      reads : ReadsAtMost (d.state l.initial.dumps) (d.state l.dumps) (waits_length l.index (take l.p l.procs.processes));
      count : length l.targets ≡ l.p;
      targets : IfTold (d.state l.initial.dumps).now (λ dump. l.targets ≡ targets_of dump l.index (take l.p l.procs.processes));
    }
