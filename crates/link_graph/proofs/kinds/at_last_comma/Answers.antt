use Rattle.std.proofs.Common.{◌≡◌, suc, ◌+◌, ◌-◌, length, take, drop, Some, sym, ◌∙◌, ap, arith}
use Rattle.std.proofs.lemmas.Grind.{common_steps}
use Rattle.std.specs.Option.{option_map}
use Rattle.link_graph.specs.Inner.Searching.{both}
use Rattle.link_graph.proofs.Commas.{at_last_comma-none, at_last_comma-at}
use Rattle.link_graph.proofs.kinds.at_last_comma.Goals as goal

pub returns-in_err-comma : goal.returns-in_err-comma
returns-in_err-comma c = ap (option_map both) c.from_residual.ensures ∙ sym (at_last_comma-none c.args.text.now c.in_err-comma.ensures)

pub returns : goal.returns
returns c =
    let text = c.args.text.now in
    let comma = c.in_ok-comma.ensures in
    let k = c.in_ok-comma.comma in
    let rest : take (length text - (k + 1)) (drop (k + 1) text) ≡ drop (k + 1) text = grind (arith, common_steps) in
    let one : k + 1 ≡ suc k = omega arith in
    ap (λ t. Some (take k text, t)) rest ∙ ap (λ n. Some (take k text, drop n text)) one ∙ sym (at_last_comma-at text k comma.0 comma.1 comma.2)
