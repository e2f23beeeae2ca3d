use Rattle.std.proofs.Common.{List, subst}
use Rattle.cell_records.specs.Order.{AreRanked}
use Rattle.heap_graph.specs.declared.held.CellPart.{CellPart}
use Rattle.heap_graph.specs.Held.{addresses_of}
use Rattle.heap_graph.specs.Laws.Keeping.{all-kept, kept-distinct, own-kept}
use Rattle.heap_graph.proofs.settling.settle.Goals as goal

pub returns-then-are_apart-clause-kept : goal.returns-then-are_apart-clause-kept
returns-then-are_apart-clause-kept c =
    let ranked = subst (λ (l : List CellPart). AreRanked (addresses_of l) c.in_ok-ranks.ranks) c.deref.ensures.value c.in_ok-ranks.ensures in
    all-kept c.args.held c.args.own c.requires.own (c.are_apart.ensures.first c.if-are_apart.true (addresses_of c.args.held.parts.items) ranked)

pub returns-then-are_apart-clause-distinct : goal.returns-then-are_apart-clause-distinct
returns-then-are_apart-clause-distinct c =
    let ranked = subst (λ (l : List CellPart). AreRanked (addresses_of l) c.in_ok-ranks.ranks) c.deref.ensures.value c.in_ok-ranks.ensures in
    c.are_apart.ensures.first c.if-are_apart.true (addresses_of c.args.held.parts.items) ranked

pub returns-clause-own : goal.returns-clause-own
returns-clause-own c = own-kept c.args.held c.in_ok-settled.settled c.args.own c.requires.holds c.in_ok-settled.ensures.kept

pub returns-clause-distinct : goal.returns-clause-distinct
returns-clause-distinct c = kept-distinct c.args.held c.in_ok-settled.settled c.args.own c.requires.holds c.in_ok-settled.ensures.kept
