use Rattle.std.proofs.Common.{◌≡◌, List, length}
use Rattle.heap_graph.specs.declared.leads.Lead.{Lead}
use Rattle.heap_graph.specs.Held.{addresses_of}
use Rattle.heap_graph.specs.Leads.{marks, references}
use Rattle.heap_skeleton.specs.Inner.Resolving.{IsResolving}
use Rattle.heap_skeleton.proofs.resolving.resolve_near.Given as goal

-- the elements so far are resolved or far
abbrev pub invariant-loop-i : goal.invariant-loop-i
invariant-loop-i l = record {
  count : length l.numbers ≡ length l.fn.numbers;
  each : (leads : List Lead) → l.fn.numbers ≡ marks leads → l.addresses ≡ references leads → IsResolving (addresses_of l.parts) l.kinds leads l.i l.numbers l.rest l.far;
}
