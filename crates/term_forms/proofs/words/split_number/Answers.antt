use Rattle.std.proofs.Common.{◌+◌, Some, sym, ◌∙◌, ap, arith}
use Rattle.std.proofs.lemmas.List.{take_rest}
use Rattle.term_forms.proofs.DigitLeads.{digits-none, digits-some}
use Rattle.term_forms.proofs.words.split_number.Goals as goal
use Rattle.term_forms.proofs.words.split_number.Goals.{then-count-eq0-via-then-count-eq0, then-count-eq0-via-else-count-eq0+then-count-text, then-count-eq0-via-else-count-eq0+else-count-text+then-text-count-ne58}

pub returns-then-count-eq0-clause-exact : goal.returns-then-count-eq0-clause-exact
returns-then-count-eq0-clause-exact c =
    sym (digits-none c.args.text.now c.hex_front-count.result.0 c.hex_front-count.ensures.count (λ some inside here.
    elim c.then-count-eq0.branch [
      | then-count-eq0-via-then-count-eq0 w ↦ (let none = w.if-count-eq0.true in omega (arith, some, none))
      | then-count-eq0-via-else-count-eq0+then-count-text w ↦ (let full = w.if-count-text.true in omega (arith, inside, full))
      | then-count-eq0-via-else-count-eq0+else-count-text+then-text-count-ne58 w ↦ w.if-text-count-ne58.true here
    ]))

pub returns-clause-exact : goal.returns-clause-exact
returns-clause-exact c =
    let text = c.args.text.now in
    let n = c.hex_front-count.result.0 in
    let found = c.hex_front-count.ensures in
    let number = c.hex_front-count.result.1 in
    let led = digits-some text n found.count (omega (arith, found.within, c.if-count-text.false)) c.if-text-count-ne58.false number (found.number (omega (arith, c.if-count-eq0.false))) in
    sym (led ∙ ap (λ l. Some (number, l)) (sym (take_rest text (n + 1))))
