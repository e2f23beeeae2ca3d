use Rattle.std.proofs.Common.{sym, ◌∙◌, ap, subst}
use Rattle.link_graph.specs.Inner.Layouts.{layout_of, IsLaidOut}
use Rattle.link_graph.specs.declared.listed.Layout.{Layout}
use Rattle.link_graph.proofs.Laying.{IsLaidOut-own}
use Rattle.link_graph.proofs.listed.Listed.new.Goals as goal

pub invariant_of-result : goal.invariant_of-result
invariant_of-result c =
    let text = c.args.piece.now.text.now in
    subst (λ (layout : Layout). IsLaidOut layout text) (sym (c.layout_of.ensures ∙ ap layout_of c.kind.ensures)) (IsLaidOut-own text)
