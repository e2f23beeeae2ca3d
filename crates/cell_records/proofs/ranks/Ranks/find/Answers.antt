use Rattle.cell_records.proofs.OrderFacts.{addresses-rise, few-pairs}
use Rattle.cell_records.proofs.ranks.Ranks.find.Goals as goal

pub first_at-requires : goal.first_at-requires
first_at-requires c =
    let ranked = c.requires.ranked in addresses-rise c.args.self.now (few-pairs c.requires.addresses c.args.self.now ranked) ranked.sorted
