use Rattle.std.proofs.Common.{Some, length, sym, ◌∙◌, ap, arith}
use Rattle.std.specs.Prelude.{slice_get}
use Rattle.part_weights.specs.Weights.{Weighing}
use Rattle.part_weights.specs.Held.{row_at}
use Rattle.part_weights.proofs.KeyedFacts.{held-within, row-there, rows-count}
use Rattle.part_weights.proofs.weights.Weights.row.Goals as goal

pub held_at-held-requires : goal.held_at-held-requires
held_at-held-requires c =
    let w = c.self.inside in
    let count = rows-count w.skeleton w.parts.parts w.labels w.held.items in
    let view = ap (λ (v : Weighing). length v.rows) c.self.view_is in
    omega (arith, c.requires, count, view, ap length c.deref.ensures.value)

pub label_at-label-requires : goal.label_at-label-requires
label_at-label-requires c =
    let w = c.self.inside in
    held-within (length w.parts.parts) w.held.items c.args.i c.held_at-held.result c.self.invariant.within (ap (λ l. slice_get l c.args.i) (sym c.deref.ensures.value) ∙ c.held_at-held.ensures)

pub part_row-requires-clause-part : goal.part_row-requires-clause-part
part_row-requires-clause-part c =
    let w = c.self.inside in
    held-within (length w.parts.parts) w.held.items c.args.i c.held_at-held.result c.self.invariant.within (ap (λ l. slice_get l c.args.i) (sym c.deref.ensures.value) ∙ c.held_at-held.ensures)

pub returns : goal.returns
returns c =
    let w = c.self.inside in
    let h = c.held_at-held.result in
    let there = ap (λ l. slice_get l c.args.i) (sym c.deref.ensures.value) ∙ c.held_at-held.ensures in
    sym (ap (λ (v : Weighing). slice_get v.rows c.args.i) c.self.view_is)
    ∙ row-there w.skeleton w.parts.parts w.labels w.held.items c.args.i h there
    ∙ sym (ap Some (c.part_row.ensures ∙ ap (λ l. record (row_at w.skeleton w.parts.parts h) { label = l }) c.label_at-label.ensures))
