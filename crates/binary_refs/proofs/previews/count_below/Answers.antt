use Rattle.std.proofs.Common.{rules, ltb}
use Rattle.std.proofs.lemmas.List.Sorted.{IsPartitionedBy-ltb, IsPartitionPoint-from_clause}
use Rattle.binary_refs.specs.declared.entries.Entry.{Entry}
use Rattle.binary_refs.proofs.previews.count_below.Goals as goal

pub returns-clause-point : goal.returns-clause-point
returns-clause-point c =
    let below = λ (e : Entry). ltb e.cell c.args.n in
    IsPartitionPoint-from_clause below _ _ c.partition_point.ensures.partitioned
    (IsPartitionedBy-ltb (λ (e : Entry). e.cell) c.args.entries.now c.args.n c.requires) (λ a r q k. search rules)
