use Rattle.std.proofs.Common.{rules}
use Rattle.std.specs.Ordering.{is_lt}
use Rattle.std.proofs.lemmas.List.Sorted.{IsPartitionPoint-from_clause}
use Rattle.dump_sections.proofs.PairFacts.{parted}
use Rattle.dump_sections.proofs.places.count_below.Goals as goal

pub returns : goal.returns
returns g c =
    IsPartitionPoint-from_clause (λ p. is_lt (g.K.Ord.cmp p.0 c.args.key)) _ _ c.partition_point.ensures.partitioned
    (parted g.K.Ord.cmp g.met.K.Ord.total c.args.key c.args.pairs.now c.requires) (λ a r q k. search rules)
