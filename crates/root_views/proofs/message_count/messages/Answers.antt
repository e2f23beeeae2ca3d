use Rattle.std.proofs.Common.{◌≡◌, ◌≤◌, ◌<◌, ◌^◌, [], filter, length, sym, ◌∙◌, ap, arith, rules}
use Rattle.std.proofs.lemmas.List.Sums.{length-filter, count_by-le-length}
use Rattle.field_lines.specs.Lines.{text_lines}
use Rattle.root_views.specs.Roots.{has_text, root_lines}
use Rattle.root_views.proofs.MailFacts.{lines_count}
use Rattle.root_views.proofs.message_count.messages.Goals as goal

pub overflow_add-count : goal.overflow_add-count
overflow_add-count c =
    let few : length c.args.body.now < 2 ^ 63 = search rules in
    let left = ap length c.in-Some.ensures.first in
    let kept : length (root_lines c.args.body.now) ≤ length (text_lines c.args.body.now) =
    omega (arith, length-filter has_text (text_lines c.args.body.now), count_by-le-length has_text (text_lines c.args.body.now)) in
    let lines : length (text_lines c.args.body.now) ≤ length c.args.body.now = omega (arith, c.lines-lines.ensures.count, ap length c.lines-lines.ensures.value) in
    omega (arith, few, left, kept, lines, c.loop-line.invariant)

pub returns : goal.returns
returns c =
    let none : filter has_text c.loop-line.lines ≡ [] = c.in_default.ensures.first.0 in
    let all : c.loop-line.count ≡ length (root_lines c.args.body.now) = omega (arith, c.loop-line.invariant, ap length none) in
    all ∙ sym (lines_count (root_lines c.args.body.now))
