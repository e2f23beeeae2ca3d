use Rattle.std.proofs.Common.{◌≡◌, take}
use Rattle.link_graph.specs.Graph.{graph_of}
use Rattle.link_graph.proofs.graph.Graph.build.Given as goal

abbrev pub invariant-loop-p : goal.invariant-loop-p
invariant-loop-p l = l.lists ≡ graph_of (take l.p l.procs.processes)
