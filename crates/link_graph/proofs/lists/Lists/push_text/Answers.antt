use Rattle.std.proofs.Common.{rules, drop, sym, ◌∙◌, subst, refl}
use Rattle.link_graph.specs.Inner.Spans.{KeepsKinds}
use Rattle.link_graph.proofs.Spans.{HasGained-read}
use Rattle.link_graph.proofs.lists.Lists.push_text.Goals as goal

pub returns : goal.returns
returns c =
    HasGained-read c.args.self.now _ _ c.args.at c.args.text.now c.in-Some.parts (sym c.new.ensures ∙ c.in-Some.is) c.requires.short c.in_ok-push_parts.ensures
    (subst (λ entries. KeepsKinds (drop c.len-from.result entries) c.args.self.now.sets.items c.push_kinds_from.new.sets.items) c.deref.ensures.value c.in_ok-push_kinds_from.ensures)
    (search rules) (search rules) (search rules) refl c.in_ok-push.ensures.items c.requires.within
