use Rattle.std.proofs.Common.{◌≡◌, ◌+◌, ◌-◌, ◌<◌, ◌≤◌, ◌++◌, ◌∷◌, length, take, drop, sym, ◌∙◌, ap, subst, arith}
use Rattle.std.specs.Option.{option_to_list}
use Rattle.std.specs.List.{between}
use Rattle.std.proofs.lemmas.List.{take_rest, length-take-le}
use Rattle.dump_io.specs.Lines.{raw_lines}
use Rattle.binary_holders.specs.Inner.Lines.{line_references, line_reference, text_reference}
use Rattle.binary_holders.proofs.MarkFacts.{unmarked, marked}
use Rattle.binary_holders.proofs.lines.next_reference.Goals as goal

pub returns-in_err-at-clause-none : goal.returns-in_err-at-clause-none
returns-in_err-at-clause-none c =
    rw c.from_residual.ensures (unmarked c.args.enc c.number_is_read.ensures c.form_is_read.ensures.found c.args.bytes.now
    (λ k is.
    let room = is.1.fits in
    c.in_err-at.ensures k (omega arith) (omega (arith, room)) is))

pub returns-clause-found : goal.returns-clause-found
returns-clause-found c =
    let bytes = c.args.bytes.now in
    let enc = c.args.enc in
    let at = c.in_ok-at.at in
    let n = c.line_len.result in
    let found = c.in_ok-at.ensures in
    let inside : at < length bytes = found.0.high in
    let start = c.line_start-start.result in
    let line = c.line_start-start.ensures in
    let low : start ≤ at = omega (arith, line.within, length-take-le at bytes (omega (arith, inside))) in
    let rest : take (length bytes - at) (drop at bytes) ≡ drop at bytes = take_rest bytes at in
    let fits : n ≤ length (drop at bytes) = subst (λ l. n ≤ length l) rest c.line_len.ensures.within in
    let first = subst (λ l. raw_lines l ≡ take n l ∷ raw_lines (drop n l)) rest c.line_len.ensures.first in
    let number : c.text_reference-reference.result ≡ line_reference enc (between start (at + n) bytes) =
    c.text_reference-reference.ensures ∙ ap (text_reference enc) c.line_text.ensures in
    marked enc c.number_is_read.ensures c.form_is_read.ensures.found bytes at start n inside found.0.before low line.whole line.behind fits first
    ∙ ap (λ o. option_to_list o ++ line_references enc (drop (at + n) bytes)) (sym number)
    ∙ ap (λ l. option_to_list c.text_reference-reference.result ++ line_references enc l) (sym (take_rest bytes (at + n)))
