use Rattle.binary_refs.proofs.EntryFacts.{entries-sorted, are-for}
use Rattle.binary_refs.proofs.previews.Previews.load_with.Goals as goal

pub invariant_of-result : goal.invariant_of-result
invariant_of-result g c = entries-sorted c.args.heap.now.cells c.in_ok-entries.entries.items c.in_ok-entries.ensures.stated

pub returns-clause-each : goal.returns-clause-each
returns-clause-each g c = are-for c.args.heap.now.cells c.in_ok-entries.entries.items c.in_ok-entries.ensures.stated
