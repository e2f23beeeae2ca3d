use Rattle.std.proofs.Common.{◌∙◌}
use Rattle.binary_refs.proofs.places.BinaryPlaces.find.Goals as goal

pub invariant_of-result : goal.invariant_of-result
invariant_of-result c =
    let found = c.in_ok-pairs_of.ensures in
    record { firsts = λ address. c.in_ok-places.ensures address ∙ found.firsts address; count = found.count }
