use Rattle.std.proofs.Common.{◌≡◌, get_or, sym, ◌∙◌, ap, subst, arith}
use Rattle.std.specs.Prelude.{IsSome}
use Rattle.term_forms.specs.SeenForms.{heap_form}
use Rattle.term_forms.specs.ReadingForms.{form_of}
use Rattle.heap_cells.specs.HeapMap.{HeapMap, IsSpelled, form_at}
use Rattle.heap_cells.specs.Targets.{number}
use Rattle.heap_cells.proofs.RecordFacts.{no-kind, some-kind}
use Rattle.heap_cells.proofs.HeapFacts as facts
use Rattle.heap_cells.proofs.heap.Heap.form.Goals as goal

pub index-cell-requires : goal.index-cell-requires
index-cell-requires c =
    let h = c.self.inside in
    omega (arith, c.requires, facts.count-parts h c.args.self.now c.self.invariant c.self.view_is, c.number-i.ensures, h.parts.ok.0)

pub index-requires : goal.index-requires
index-requires c =
    let h = c.self.inside in
    omega (arith, c.requires, facts.count-kinds h c.args.self.now c.self.invariant c.self.view_is, c.number-i.ensures, h.kinds.ok.0)

pub overflow_add-from : goal.overflow_add-from
overflow_add-from c =
    let h = c.self.inside in
    let read : c.index-cell.result.now ≡ get_or h.parts.items (number c.args.ix) c.index-cell.result.now =
    subst (λ n. c.index-cell.result.now ≡ get_or h.parts.items n c.index-cell.result.now) c.number-i.ensures c.index-cell.ensures in
    let part = facts.part-of h c.args.self.now c.self.invariant c.self.view_is (number c.args.ix) c.requires c.index-cell.result.now read in
    let within = part.0.within in
    omega (arith, within, c.self.invariant.heap_size, c.self.invariant.size)

pub part-requires : goal.part-requires
part-requires c =
    let h = c.self.inside in
    let read : c.index-cell.result.now ≡ get_or h.parts.items (number c.args.ix) c.index-cell.result.now =
    subst (λ n. c.index-cell.result.now ≡ get_or h.parts.items n c.index-cell.result.now) c.number-i.ensures c.index-cell.ensures in
    let part = facts.part-of h c.args.self.now c.self.invariant c.self.view_is (number c.args.ix) c.requires c.index-cell.result.now read in
    part.0

pub spelled_form-requires : goal.spelled_form-requires
spelled_form-requires c =
    let h = c.self.inside in
    let read : c.index-cell.result.now ≡ get_or h.parts.items (number c.args.ix) c.index-cell.result.now =
    subst (λ n. c.index-cell.result.now ≡ get_or h.parts.items n c.index-cell.result.now) c.number-i.ensures c.index-cell.ensures in
    let part = facts.part-of h c.args.self.now c.self.invariant c.self.view_is (number c.args.ix) c.requires c.index-cell.result.now read in
    let kind = facts.kind-of h c.args.self.now c.self.invariant c.self.view_is (number c.args.ix) c.requires c.index.result.now (subst (λ n. c.index.result.now ≡ get_or h.kinds.items n c.index.result.now) c.number-i.ensures c.index.ensures) in
    subst (λ o. IsSome o) (sym (ap (form_of h.texts.enc) c.part.ensures ∙ part.1)) (some-kind (form_at c.args.self.now.cells (number c.args.ix)) c.in-Some.field-0 (sym c.in-Some.is ∙ kind))

pub returns-in-None-clause-form : goal.returns-in-None-clause-form
returns-in-None-clause-form c =
    let h = c.self.inside in
    let kind = facts.kind-of h c.args.self.now c.self.invariant c.self.view_is (number c.args.ix) c.requires c.index.result.now (subst (λ n. c.index.result.now ≡ get_or h.kinds.items n c.index.result.now) c.number-i.ensures c.index.ensures) in
    sym (no-kind (form_at c.args.self.now.cells (number c.args.ix)) (sym c.in-None.is ∙ kind))

pub returns-in-Some-clause-form : goal.returns-in-Some-clause-form
returns-in-Some-clause-form c =
    let h = c.self.inside in
    let read : c.index-cell.result.now ≡ get_or h.parts.items (number c.args.ix) c.index-cell.result.now =
    subst (λ n. c.index-cell.result.now ≡ get_or h.parts.items n c.index-cell.result.now) c.number-i.ensures c.index-cell.ensures in
    let part = facts.part-of h c.args.self.now c.self.invariant c.self.view_is (number c.args.ix) c.requires c.index-cell.result.now read in
    c.spelled_form.ensures.form ∙ ap (form_of h.texts.enc) c.part.ensures ∙ part.1

pub returns-in-Some-clause-spelled : goal.returns-in-Some-clause-spelled
returns-in-Some-clause-spelled c =
    let enc = ap (λ (map : HeapMap). map.enc) c.self.view_is in
    subst (λ e. IsSpelled e (heap_form c.spelled_form.result)) enc (c.part.result.now, c.spelled_form.ensures.spelled)
