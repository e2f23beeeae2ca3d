use Rattle.std.proofs.Common.{◌≡◌, length, map, take}
use Rattle.dump_io.specs.Dumps.{IfTold, ReadsAtMost}
use Rattle.process_stacks.specs.Groups.{stand_of}
use Rattle.process_stacks.specs.Rows.{stacks_length}
use Rattle.process_stacks.proofs.read_stands.read_stands.Given as goal

-- where the processes so far stand was read
abbrev pub invariant-loop-p : goal.invariant-loop-p
invariant-loop-p g l =
    let d = g.D.Dumps in
    record {
      reads : ReadsAtMost (d.state l.initial.dumps) (d.state l.dumps) (stacks_length l.index (take l.p l.procs));
      count : length l.all.items ≡ l.p;
      stands : IfTold (d.state l.initial.dumps).now (λ dump. l.all.items ≡ map (stand_of dump l.index) (take l.p l.procs));
    }
