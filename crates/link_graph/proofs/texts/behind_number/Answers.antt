use Rattle.std.proofs.Common.{◌≡◌, ◌+◌, ◌-◌, length, take, drop, get_or, Some, sym, ◌∙◌, ap, arith}
use Rattle.std.specs.Option.{option_copied}
use Rattle.std.proofs.lemmas.Bool.{eqb-true, false_from_ne_true}
use Rattle.std.proofs.lemmas.Grind.{common_steps}
use Rattle.link_graph.specs.Texts.{is_dot}
use Rattle.link_graph.proofs.Numbers.{number_absent, number_empty, number_there, number_ended}
use Rattle.link_graph.proofs.texts.behind_number.Goals as goal
use Rattle.link_graph.proofs.texts.behind_number.Goals.{else-end-gt0-via-then-end-gt0+else-text-end-eq46, else-end-gt0-via-else-end-gt0}

pub returns-in_err-end : goal.returns-in_err-end
returns-in_err-end c = ap option_copied c.from_residual.ensures ∙ sym (number_absent c.args.text.now (sym c.in_err-end.ensures))

pub returns-then-text-end-eq46 : goal.returns-then-text-end-eq46
returns-then-text-end-eq46 c =
    let text = c.args.text.now in
    let end = c.in_ok-end.end in
    let rest : take (length text - (end + 1)) (drop (end + 1) text) ≡ drop (end + 1) text = grind (arith, common_steps) in
    ap Some rest ∙ sym (number_there text end (sym c.in_ok-end.ensures) c.if-end-gt0.true (ap is_dot c.if-text-end-eq46.true))

pub returns-else-end-gt0 : goal.returns-else-end-gt0
returns-else-end-gt0 c =
    let text = c.args.text.now in
    let end = c.in_ok-end.end in
    sym (elim c.else-end-gt0.branch [
      | else-end-gt0-via-then-end-gt0+else-text-end-eq46 w ↦ number_ended text end (sym c.in_ok-end.ensures) w.if-end-gt0.true
          (false_from_ne_true _ (λ dot. w.if-text-end-eq46.false (eqb-true (get_or text end 0) 46 dot)))
      | else-end-gt0-via-else-end-gt0 w ↦ number_empty text end (sym c.in_ok-end.ensures) (omega (arith, w.if-end-gt0.false))
    ])
