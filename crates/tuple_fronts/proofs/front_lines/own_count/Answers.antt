use Rattle.std.proofs.Common.{rules, ltb}
use Rattle.std.proofs.lemmas.List.Sorted.{IsPartitionedBy-ltb, IsPartitionPoint-from_clause}
use Rattle.std.proofs.lemmas.Map.Keys.{non_decreasing_from_sorted, sorted_from_strictly_increasing}
use Rattle.tuple_fronts.proofs.front_lines.own_count.Goals as goal

pub returns-clause-split : goal.returns-clause-split
returns-clause-split c =
    let cells = c.args.cells.now in
    let below = λ (n : Prim.Native.Nat.ℕ). ltb n c.args.own in
    let rising = non_decreasing_from_sorted cells (sorted_from_strictly_increasing cells c.requires) in
    IsPartitionPoint-from_clause below _ _ c.partition_point.ensures.partitioned (IsPartitionedBy-ltb (λ n. n) cells c.args.own rising) (λ a r q k. search rules)
