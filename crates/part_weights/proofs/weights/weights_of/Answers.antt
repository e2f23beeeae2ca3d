use Rattle.std.proofs.Common.{◌≡◌, ◌<◌, None, length, ◌∙◌, ap, subst}
use Rattle.std.specs.Prelude.{All}
use Rattle.part_weights.specs.Held.{sorted_parts}
use Rattle.part_weights.specs.Inner.Shown.{weighing_with}
use Rattle.part_weights.proofs.ShareFacts.{shares-count, weighing-kept}
use Rattle.part_weights.proofs.weights.weights_of.Goals as goal

pub invariant_of-result : goal.invariant_of-result
invariant_of-result c =
    let count : length c.deref.result.now ≡ length c.args.parts.parts =
    ap length c.deref.ensures.value ∙ shares-count c.args.skeleton c.args.parts.parts c.in_ok-alone.field-0 c.in_ok-alone.ensures in record {
      over = c.requires;
      within = subst (λ n. All (λ h. h.part < n) c.in_ok-held.held.items) count c.in_ok-held.ensures.within;
    }

pub returns : goal.returns
returns c = λ elements of.
    let shares = c.in_ok-alone.field-0 in
    ap (λ held. weighing_with c.args.skeleton c.args.parts held None c.args.within shares.shared shares.reached shares.own) (c.in_ok-held.ensures.value ∙ ap sorted_parts c.deref.ensures.value)
    ∙ weighing-kept c.args.skeleton c.args.parts shares c.args.within elements of c.in_ok-alone.ensures
