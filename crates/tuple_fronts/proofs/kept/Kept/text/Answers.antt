use Rattle.std.proofs.Common.{sym, ◌∙◌, ap, ap₂, subst, arith, length}
use Rattle.std.specs.Prelude.{slice_index, slice_range, IsSome}
use Rattle.term_forms.specs.Reading.{whole_of}
use Rattle.tuple_fronts.specs.Inner.Kept.{start_at}
use Rattle.tuple_fronts.proofs.PartFacts.{part-at, text-laid, text-spelled}
use Rattle.tuple_fronts.proofs.kept.Kept.text.Goals as goal

pub items_between-requires-clause-ordered : goal.items_between-requires-clause-ordered
items_between-requires-clause-ordered c =
    let laid = text-laid c.args.self.now c.args.n c.requires.sound c.requires.element in
    let start = c.span_of-from.ensures.from ∙ ap (λ l. start_at l c.args.n) c.deref.ensures.value in
    let end = c.span_of-from.ensures.upto ∙ ap (λ l. slice_index l c.args.n) c.deref.ensures.value in
    omega (arith, laid.0, start, end)

pub items_between-requires-clause-within : goal.items_between-requires-clause-within
items_between-requires-clause-within c =
    let laid = text-laid c.args.self.now c.args.n c.requires.sound c.requires.element in
    let end = c.span_of-from.ensures.upto ∙ ap (λ l. slice_index l c.args.n) c.deref.ensures.value in
    let all = ap length c.deref-2.ensures.value in
    omega (arith, laid.1, end, all)

pub returns-clause-text : goal.returns-clause-text
returns-clause-text c =
    let kept = c.args.self.now in
    let n = c.args.n in
    let start = c.span_of-from.ensures.from ∙ ap (λ l. start_at l n) c.deref.ensures.value in
    let end = c.span_of-from.ensures.upto ∙ ap (λ l. slice_index l n) c.deref.ensures.value in
    c.items_between.ensures ∙ ap (λ l. slice_range l c.span_of-from.result.0 c.span_of-from.result.1) c.deref-2.ensures.value ∙ ap₂ (slice_range kept.texts.items) start end
    ∙ sym (part-at kept.texts.items kept.ends.items n c.requires.element)

pub returns-clause-spelled : goal.returns-clause-spelled
returns-clause-spelled c =
    let kept = c.args.self.now in
    let n = c.args.n in
    let start = c.span_of-from.ensures.from ∙ ap (λ l. start_at l n) c.deref.ensures.value in
    let end = c.span_of-from.ensures.upto ∙ ap (λ l. slice_index l n) c.deref.ensures.value in
    let is = c.items_between.ensures ∙ ap (λ l. slice_range l c.span_of-from.result.0 c.span_of-from.result.1) c.deref-2.ensures.value ∙ ap₂ (slice_range kept.texts.items) start end
    ∙ sym (part-at kept.texts.items kept.ends.items n c.requires.element) in
    subst (λ t. IsSome (whole_of t)) (sym is) (text-spelled kept n c.requires.sound c.requires.element)
