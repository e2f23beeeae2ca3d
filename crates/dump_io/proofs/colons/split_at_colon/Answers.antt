use Rattle.std.proofs.Common.{◌≡◌, ◌+◌, ◌-◌, length, take, drop, sym, ◌∙◌, subst, arith}
use Rattle.std.proofs.lemmas.Grind.{common_steps}
use Rattle.dump_io.specs.Colons.{SplitsAtColon}
use Rattle.dump_io.proofs.Splits.{has_colon-none, has_colon-at}
use Rattle.dump_io.proofs.colons.split_at_colon.Goals as goal

pub returns-in_err-colon : goal.returns-in_err-colon
returns-in_err-colon c = subst (SplitsAtColon c.args.text.now) (sym c.from_residual.ensures) (has_colon-none c.args.text.now c.in_err-colon.ensures)

pub returns : goal.returns
returns c =
    let text = c.args.text.now in
    let colon = c.in_ok-colon.ensures in
    let k = c.in_ok-colon.colon in
    let rest : take (length text - (k + 1)) (drop (k + 1) text) ≡ drop (k + 1) text = grind (arith, common_steps) in
    let parts = has_colon-at text k colon.0.high colon.0.before colon.1 in
    (parts.0, sym parts.1, rest ∙ sym parts.2)
