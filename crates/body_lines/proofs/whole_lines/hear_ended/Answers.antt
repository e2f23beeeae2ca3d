use Rattle.std.proofs.Common.{take, drop, sym, subst}
use Rattle.std.proofs.lemmas.List.{take-append-drop}
use Rattle.std.proofs.lemmas.Result.{err_from_is_err_and}
use Rattle.body_lines.specs.Lines.{lines_at, HasNoLf}
use Rattle.body_lines.proofs.Hearings.{Joins-whole, StopsWithin-whole}
use Rattle.body_lines.proofs.Wholes.{Takes-none, Takes-whole}
use Rattle.body_lines.proofs.whole_lines.hear_ended.Goals as goal

pub returns-in_err-lines-clause-stops : goal.returns-in_err-lines-clause-stops
returns-in_err-lines-clause-stops g c =
    let p = err_from_is_err_and c.from_residual.result c.from_residual.ensures.1 in
    let r = g.R.WholeLineSink in
    let n = c.line_start_behind-whole.result in
    let bytes = c.args.bytes.now in
    rw (p.1, p.2) (StopsWithin-whole r.hears r.stops lines_at Joins-whole c.args.line c.args.sink.now c.lines.new.self bytes (take n bytes) (drop n bytes) c.in_err-lines.field-0.0
    (sym (take-append-drop n bytes)) c.line_start_behind-whole.ensures.whole c.in_err-lines.ensures.stops)

pub returns-then-whole-eq0-clause-takes : goal.returns-then-whole-eq0-clause-takes
returns-then-whole-eq0-clause-takes g c =
    let bytes = c.args.bytes.now in
    let free : HasNoLf bytes = subst (λ n. HasNoLf (drop n bytes)) c.if-whole-eq0.true c.line_start_behind-whole.ensures.behind in
    Takes-none g.R.WholeLineSink.hears lines_at Joins-whole c.args.sink.now c.args.line bytes free

pub returns-clause-takes : goal.returns-clause-takes
returns-clause-takes g c =
    let found = c.line_start_behind-whole.ensures in
    Takes-whole g.R.WholeLineSink.hears lines_at c.args.sink.now c.lines.new.self c.args.line c.line_start_behind-whole.result c.args.bytes.now c.move_front.new.bytes
    found.within found.whole found.behind c.move_front.ensures c.in_ok-lines.ensures.hears
