use Rattle.std.proofs.Common.{length, sym, ◌∙◌, ap, arith}
use Rattle.cell_records.specs.Order.{number_with}
use Rattle.heap_cells.specs.HeapMap.{form_at}
use Rattle.heap_cells.specs.Laws.Cells.{number_at-within}
use Rattle.heap_graph.specs.Held.{addresses_of}
use Rattle.heap_cells.proofs.RecordFacts.{no-kind, some-kind}
use Rattle.heap_cells.proofs.HeapFacts as facts
use Rattle.heap_cells.proofs.heap.Heap.at.Goals as goal

pub number_of-requires-clause-few : goal.number_of-requires-clause-few
number_of-requires-clause-few c =
    let h = c.self.inside in
    omega (arith, ap length c.deref-2.ensures.value, facts.count-parts h c.args.self.now c.self.invariant c.self.view_is, facts.cells-few h c.args.self.now c.self.invariant c.self.view_is)

pub returns-in_default : goal.returns-in_default
returns-in_default c =
    let h = c.self.inside in
    sym (facts.number-of h c.args.self.now c.self.invariant c.self.view_is c.args.addr) ∙ ap (λ p. number_with (addresses_of p) c.args.addr) (sym c.deref-2.ensures.value) ∙ sym c.number_of.ensures ∙ c.in_default.is

pub index-requires : goal.index-requires
index-requires c =
    let h = c.self.inside in
    let found = sym (facts.number-of h c.args.self.now c.self.invariant c.self.view_is c.args.addr) ∙ ap (λ p. number_with (addresses_of p) c.args.addr) (sym c.deref-2.ensures.value) ∙ sym c.number_of.ensures ∙ c.in-Some.is in
    let inside = number_at-within c.args.self.now.cells c.args.addr c.in-Some.n found in
    omega (arith, inside, facts.count-kinds h c.args.self.now c.self.invariant c.self.view_is, h.kinds.ok.0)

pub returns-in-None : goal.returns-in-None
returns-in-None c =
    let h = c.self.inside in
    let found = sym (facts.number-of h c.args.self.now c.self.invariant c.self.view_is c.args.addr) ∙ ap (λ p. number_with (addresses_of p) c.args.addr) (sym c.deref-2.ensures.value) ∙ sym c.number_of.ensures ∙ c.in-Some.is in
    let inside = number_at-within c.args.self.now.cells c.args.addr c.in-Some.n found in
    let kind = facts.kind-of h c.args.self.now c.self.invariant c.self.view_is c.in-Some.n inside c.index.result.now c.index.ensures in
    rw c.new-ix.ensures (found, no-kind (form_at c.args.self.now.cells c.in-Some.n) (sym c.in-None.is ∙ kind), inside)

pub returns-in-Some-index : goal.returns-in-Some-index
returns-in-Some-index c =
    let h = c.self.inside in
    let found = sym (facts.number-of h c.args.self.now c.self.invariant c.self.view_is c.args.addr) ∙ ap (λ p. number_with (addresses_of p) c.args.addr) (sym c.deref-2.ensures.value) ∙ sym c.number_of.ensures ∙ c.in-Some.is in
    let inside = number_at-within c.args.self.now.cells c.args.addr c.in-Some.n found in
    let kind = facts.kind-of h c.args.self.now c.self.invariant c.self.view_is c.in-Some.n inside c.index.result.now c.index.ensures in
    rw c.new-ix.ensures (found, some-kind (form_at c.args.self.now.cells c.in-Some.n) c.in-Some-index.field-0 (sym c.in-Some-index.is ∙ kind), inside)
