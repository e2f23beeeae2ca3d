use Rattle.std.proofs.Common.{◌<◌, All, ◌∙◌, subst}
use Rattle.std.proofs.lemmas.List.{length-map}
use Rattle.text_groups.specs.Groups.{Item}
use Rattle.text_groups.specs.declared.text_group.TextGroup.{TextGroup}
use Rattle.process_stacks.proofs.stacks.Stacks.gather.Goals as goal

pub returns-clause-fits : goal.returns-clause-fits
returns-clause-fits g c =
    let stands = c.in_ok-stands.stands.all.items in
    let groups = c.in_ok-groups.groups.items in
    record {
      places = length-map stands (λ (s : Item). s.text) ∙ c.in_ok-stands.ensures.count;
      firsts = subst (λ n. All (λ (group : TextGroup). group.first < n) groups) c.in_ok-stands.ensures.count c.in_ok-groups.ensures.firsts;
    }
