use Rattle.std.proofs.Common.{◌<◌, length, ◌∙◌, sym, subst}
use Rattle.std.specs.Prelude.{All}
use Rattle.std.proofs.lemmas.List.Elements.{All-take}
use Rattle.part_weights.proofs.held_parts.first_held.Goals as goal

pub returns-clause-within : goal.returns-clause-within
returns-clause-within c =
    let alone = c.args.alone.now in
    subst (All (λ h. h.part < length alone)) (sym (c.shrink_to_fit.ensures.items ∙ c.truncate.ensures.items))
    (All-take (λ h. h.part < length alone) c.args.most c.in_ok-held.held.items c.in_ok-held.ensures.within)
