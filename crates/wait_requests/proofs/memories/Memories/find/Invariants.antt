use Rattle.std.proofs.Common.{take}
use Rattle.dump_sections.specs.Index.{sections_in}
use Rattle.wait_requests.specs.Inner.Memories.{AreMemories}
use Rattle.wait_requests.proofs.memories.Memories.find.Given as goal

-- the stacks and the heaps among the sections so far
abbrev pub invariant-loop-i : goal.invariant-loop-i
invariant-loop-i l = AreMemories (take l.i (sections_in l.index)) l.procs.processes l.memories
