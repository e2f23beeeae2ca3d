use Rattle.std.proofs.Common.{◌<◌, length, sym, subst}
use Rattle.std.specs.Prelude.{All}
use Rattle.std.proofs.lemmas.List.Sorted.{All-permutation}
use Rattle.part_weights.specs.Laws.Rows.{held-numbered}
use Rattle.part_weights.proofs.held_parts.sorted_parts.Goals as goal

pub returns-clause-within : goal.returns-clause-within
returns-clause-within c =
    let alone = c.args.alone.now in
    All-permutation (λ h. h.part < length alone) c.in_ok-held.held.items c.sort_most_first.new.rows.items c.sort_most_first.ensures.permutation
    (subst (All (λ h. h.part < length alone)) (sym c.in_ok-held.ensures) (held-numbered alone))
