use Rattle.std.proofs.Common.{◌<◌, length}
use Rattle.std.proofs.lemmas.List.Sorted.{All-permutation}
use Rattle.text_groups.specs.declared.text_group.TextGroup.{TextGroup}
use Rattle.message_shapes.proofs.shapes.sorted_groups.Goals as goal

pub returns-clause-firsts : goal.returns-clause-firsts
returns-clause-firsts c =
    All-permutation (λ (group : TextGroup). group.first < length c.args.messages.now) _ _ c.sort_most_first.ensures.permutation c.in_ok-groups.ensures.firsts
