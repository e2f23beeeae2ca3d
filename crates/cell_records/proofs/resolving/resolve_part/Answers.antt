use Rattle.cell_records.proofs.ResolvingFacts.{references-moved}
use Rattle.cell_records.proofs.resolving.resolve_part.Goals as goal

pub resolve_each-requires-clause-references : goal.resolve_each-requires-clause-references
resolve_each-requires-clause-references c =
    references-moved c.args.slots.now c.in_ok-references.references c.sort.new.self c.in_ok-references.ensures c.sort.ensures.permutation
