use Rattle.std.proofs.Common.{Some, sym, ◌∙◌}
use Rattle.std.specs.Prelude.{codes}
use Rattle.std.proofs.lemmas.Bool.Decides.{Decides-eqb}
use Rattle.std.proofs.lemmas.Slice.Eq.{strip_prefix_is}
use Rattle.binary_holders.proofs.TextFacts.{part-spelled, whole-spelled}
use Rattle.binary_holders.proofs.texts.text_reference.Goals as goal

pub returns-in-Some : goal.returns-in-Some
returns-in-Some c =
    let spelled = strip_prefix_is Decides-eqb c.in_ok-address.spelled.now (codes "Yc") (Some c.in-Some.range) c.in-Some.ensures.cases in
    c.range_reference.ensures
    ∙ sym (whole-spelled c.args.enc c.args.text.now c.in_ok-address.spelled.now c.in_ok-address.address (sym c.in_ok-address.ensures.exact) c.in-Some.range.now spelled)

pub returns : goal.returns
returns c =
    let spelled = strip_prefix_is Decides-eqb c.in_ok-address.spelled.now (codes "Ys") (Some c.in_ok-range.range) c.in_ok-range.ensures.cases in
    c.range_reference-2.ensures
    ∙ sym (part-spelled c.args.enc c.args.text.now c.in_ok-address.spelled.now c.in_ok-address.address (sym c.in_ok-address.ensures.exact) c.in_ok-range.range.now spelled)
