use Rattle.std.proofs.Common.{◌≡◌, []}
use Rattle.binary_refs.specs.Previews.{by_number, stated}
use Rattle.binary_refs.proofs.previews.has_reference.Given as goal

-- none of the cells so far refers to a binary
abbrev pub invariant-loop-n : goal.invariant-loop-n
invariant-loop-n l = by_number stated l.heap.cells l.n ≡ []
