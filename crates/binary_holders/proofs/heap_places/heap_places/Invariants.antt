use Rattle.std.proofs.Common.{◌≡◌, map, take, All}
use Rattle.dump_sections.specs.Bodies.{IsPlaceIn}
use Rattle.dump_sections.specs.Index.{sections_in}
use Rattle.binary_holders.specs.Inner.Places.{heap_place}
use Rattle.binary_holders.proofs.heap_places.heap_places.Given as goal

-- the places of the heaps of the processes so far
abbrev pub invariant-loop-process : goal.invariant-loop-process
invariant-loop-process l = record {
  places : l.heaps.items ≡ map (λ process. heap_place (sections_in l.index) process.pid) (take l.process l.procs.processes);
  within : All (IsPlaceIn l.index) l.heaps.items;
}
