use Rattle.std.proofs.Common.{◌≡◌, ◌+◌, ◌-◌, length, take, drop, sym, ◌∙◌, subst, arith}
use Rattle.std.proofs.lemmas.Grind.{common_steps}
use Rattle.root_views.specs.Inner.Splits.{SplitsAtLast}
use Rattle.root_views.proofs.SplitFacts.{no_colon, last_colon}
use Rattle.root_views.proofs.texts.split_at_last_colon.Goals as goal

pub returns-in_err-colon-clause-parts : goal.returns-in_err-colon-clause-parts
returns-in_err-colon-clause-parts c = subst (SplitsAtLast c.args.text.now) (sym c.from_residual.ensures) (no_colon c.args.text.now c.in_err-colon.ensures)

pub returns-clause-parts : goal.returns-clause-parts
returns-clause-parts c =
    let text = c.args.text.now in
    let colon = c.in_ok-colon.ensures in
    let k = c.in_ok-colon.colon in
    let rest : take (length text - (k + 1)) (drop (k + 1) text) ≡ drop (k + 1) text = grind (arith, common_steps) in
    let parts = last_colon text k colon.0.high colon.0.after colon.1 in
    (parts.0, sym parts.1, rest ∙ sym parts.2)
