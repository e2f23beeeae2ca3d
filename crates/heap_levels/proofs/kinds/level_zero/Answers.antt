use Rattle.std.proofs.Common.{◌∙◌, ap, length, sym, arith}
use Rattle.std.specs.Prelude.{slice_get}
use Rattle.heap_levels.proofs.KindFacts.{kinds-kept}
use Rattle.heap_levels.proofs.kinds.level_zero.Goals as goal

pub weight_at-on_stack-requires : goal.weight_at-on_stack-requires
weight_at-on_stack-requires c = omega (arith, ap length c.deref.ensures.value, ap length c.in_ok-alone.ensures.alone)

pub weight_at-in_dict-requires : goal.weight_at-in_dict-requires
weight_at-in_dict-requires c = omega (arith, ap length c.deref-2.ensures.value, ap length c.in_ok-alone.ensures.alone)

pub weight_at-in_mail-requires : goal.weight_at-in_mail-requires
weight_at-in_mail-requires c = omega (arith, ap length c.deref-3.ensures.value, ap length c.in_ok-alone.ensures.alone)

pub returns : goal.returns
returns c =
    kinds-kept c.args.skeleton.now c.args.stack.now.parts c.args.dict.now.parts c.args.mail.now.parts c.in_ok-alone.field-0 c.weight_at-on_stack.result c.weight_at-in_dict.result c.weight_at-in_mail.result c.in_ok-rows.rows.items
    c.in_ok-alone.ensures
    (ap (λ l. slice_get l 0) (sym c.deref.ensures.value) ∙ c.weight_at-on_stack.ensures) (ap (λ l. slice_get l 1) (sym c.deref-2.ensures.value) ∙ c.weight_at-in_dict.ensures)
    (ap (λ l. slice_get l 2) (sym c.deref-3.ensures.value) ∙ c.weight_at-in_mail.ensures) c.in_ok-rows.ensures
