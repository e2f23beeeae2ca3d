use Rattle.std.proofs.Common.{◌∙◌, ap, map, subst, sym}
use Rattle.std.specs.List.{list_any}
use Rattle.link_graph.specs.Inner.Orders.{AreInOrder}
use Rattle.link_graph.specs.Kinds.{is_same_kind}
use Rattle.link_graph.specs.Seen.{shown_kind}
use Rattle.link_graph.proofs.Sets.{list_any-shown, searched}
use Rattle.link_graph.proofs.kind_set.KindSet.has.Goals as goal

pub returns : goal.returns
returns c =
    let kinds = c.as_slice.result.now in
    let wanted = c.args.wanted.now in
    c.is_ok.ensures.value
    ∙ searched kinds wanted c.binary_search.result (subst AreInOrder (sym c.as_slice.ensures.value) c.self.invariant) c.binary_search.ensures.bound c.binary_search.ensures.position
    ∙ list_any-shown wanted kinds
    ∙ ap (λ l. list_any (is_same_kind (shown_kind wanted)) (map shown_kind l)) c.as_slice.ensures.value
    ∙ ap (list_any (is_same_kind (shown_kind wanted))) c.self.view_is
