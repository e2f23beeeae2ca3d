use Rattle.std.proofs.Common.{rules, ltb, map}
use Rattle.std.proofs.lemmas.List.Sorted.{IsPartitionedBy-ltb, IsPartitionPoint-from_clause}
use Rattle.cell_records.specs.Order.{address_in}
use Rattle.cell_records.proofs.order.count_below.Goals as goal

pub returns-clause-point : goal.returns-clause-point
returns-clause-point g c =
    let xs = map g.T.Located.address c.args.cells.now in
    let below = λ (n : Prim.Native.Nat.ℕ). ltb (address_in xs n) c.args.address in
    IsPartitionPoint-from_clause below _ _ c.partition_point.ensures.partitioned
    (IsPartitionedBy-ltb (address_in xs) c.args.order.now c.args.address c.requires) (λ a r q k. search rules)
