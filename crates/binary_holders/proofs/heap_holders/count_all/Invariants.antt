use Rattle.std.proofs.Common.{◌≡◌, ◌+◌, ◌<◌, [], length, map, filter, take}
use Rattle.std.specs.Prelude.{All}
use Rattle.std.specs.List.{flat_map, sum_by}
use Rattle.dump_io.specs.Dumps.{IfTold, ReadsAtMost}
use Rattle.binary_holders.specs.Held.{holdings, whole_lines}
use Rattle.binary_holders.specs.Usage.{NamesProcess}
use Rattle.binary_holders.specs.Inner.HeapSinks.{IsReady}
use Rattle.binary_holders.specs.Inner.Places.{binaries_at, numbers_at, references_at, size_at}
use Rattle.binary_holders.specs.Inner.Counting.{HasCounted, is_listed, no_lines}
use Rattle.binary_holders.proofs.heap_holders.count_all.Given as goal

-- the heaps of the processes so far were counted
abbrev pub invariant-loop-process : goal.invariant-loop-process
invariant-loop-process g l =
    let d = g.D.Dumps in
    record {
      buffer : 72 < length l.buffer;
      enc : l.sink.enc ≡ l.initial.sink.enc;
      targets : l.sink.targets.now ≡ l.initial.sink.targets.now;
      reads : ReadsAtMost (d.state l.initial.dumps) (d.state l.dumps) (sum_by (size_at l.index) (take l.process l.heaps));
      turn : l.sink.counts.turn ≡ l.process + 1;
      room : IsReady l.sink;
      heap : l.sink.counts.heap ≡ no_lines;
      held : IfTold (d.state l.initial.dumps).now (λ dump. l.held.items ≡ filter (is_listed l.listed) (holdings l.initial.sink.targets.now (map (binaries_at dump l.index) (take l.process l.procs.processes))));
      named : All (NamesProcess (length l.heaps)) l.held.items;
      had : IfTold (d.state l.initial.dumps).now (λ dump. HasCounted l.initial.sink.targets.now (map (numbers_at dump l.index) (take l.process l.heaps)) [] l.sink.counts);
      lines : IfTold (d.state l.initial.dumps).now (λ dump. l.sink.counts.lines ≡ whole_lines l.initial.sink.targets.now (flat_map (references_at dump l.index) (take l.process l.heaps)));
    }
