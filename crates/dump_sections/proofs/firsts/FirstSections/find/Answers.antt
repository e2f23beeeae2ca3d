use Rattle.std.proofs.Common.{◌∙◌}
use Rattle.dump_sections.proofs.firsts.FirstSections.find.Goals as goal

pub invariant_of-result : goal.invariant_of-result
invariant_of-result c =
    let found = c.in_ok-pairs_of.ensures in
    record { firsts = λ id. c.in_ok-places.ensures id ∙ found.firsts id; count = found.count }
