use Rattle.std.proofs.Common.{◌≡◌, ℕ, List, Vec, Global, map, sym, ◌∙◌, ap, subst}
use Rattle.std.proofs.lemmas.Result.{IfOk-weaker}
use Rattle.text_groups.specs.Groups.{groups}
use Rattle.text_groups.specs.Numbers.{HaveNumbers}
use Rattle.text_groups.specs.declared.text_group.TextGroup.{TextGroup}
use Rattle.message_shapes.specs.Messages.{item_of}
use Rattle.message_shapes.specs.Inner.Shaped.{messages_with, shapes_of}
use Rattle.message_shapes.proofs.NumberedFacts.{items-are}
use Rattle.message_shapes.proofs.messages.Messages.groups.Goals as goal

pub returns-clause-groups : goal.returns-clause-groups
returns-clause-groups c =
    let messages = messages_with c.self.inside.cells c.self.inside.shapes c.self.inside.heard in
    let numbered = c.in_ok-numbers.ensures in
    let have : HaveNumbers numbered.known (shapes_of messages) c.deref.result.now = subst (λ (l : List ℕ). HaveNumbers numbered.known (shapes_of messages) l) (sym c.deref.ensures.value) numbered.have in
    IfOk-weaker _ _ (λ (found : Vec TextGroup Global). found.items ≡ groups (map item_of c.args.self.now))
    (λ (found : Vec TextGroup Global) all. all numbered.known (shapes_of messages) have ∙ ap groups (items-are messages) ∙ ap (λ l. groups (map item_of l)) c.self.view_is)
    c.group_numbers.ensures.groups
