use Rattle.std.proofs.Common.{arith}
use Rattle.dump_redact.proofs.PlainLines.{free-before, plain-front, plain-all}
use Rattle.dump_redact.proofs.heaps.plain_len.Goals as goal

pub returns-then-place-bytes-clause-plain : goal.returns-then-place-bytes-clause-plain
returns-then-place-bytes-clause-plain c =
    let bytes = c.args.bytes.now in
    let place = c.mark_at-place.result in
    plain-all c.number_is_read.ensures c.args.enc c.form_is_read.ensures.found bytes place (omega (arith, c.if-place-bytes.true)) (free-before place bytes c.mark_at-place.ensures.marks)

pub returns-clause-plain : goal.returns-clause-plain
returns-clause-plain c =
    let bytes = c.args.bytes.now in
    let place = c.mark_at-place.result in
    plain-front c.number_is_read.ensures c.args.enc c.form_is_read.ensures.found bytes place c.last_line_at.result
    (free-before place bytes c.mark_at-place.ensures.marks) c.last_line_at.ensures.within c.last_line_at.ensures.ended
