use Rattle.std.proofs.Common.{take, drop, sym}
use Rattle.std.proofs.lemmas.List.{take-append-drop}
use Rattle.std.proofs.lemmas.Result.{err_from_is_err_and}
use Rattle.body_lines.specs.Lines.{cut_lines}
use Rattle.body_lines.proofs.Hearings.{Joins-cut, StopsWithin-whole}
use Rattle.body_lines.proofs.pieces.hear_whole.Goals as goal

pub returns-in_err-lines-clause-stops : goal.returns-in_err-lines-clause-stops
returns-in_err-lines-clause-stops g c =
    let p = err_from_is_err_and c.from_residual.result c.from_residual.ensures.1 in
    let r = g.R.LineSink in
    let n = c.line_start-whole.result in
    let bytes = c.args.bytes.now in
    rw (p.1, p.2) (StopsWithin-whole r.hears r.stops (cut_lines r.kept) (Joins-cut r.kept) c.args.at c.args.sink.now c.lines.new.self bytes (take n bytes) (drop n bytes) c.in_err-lines.field-0.0
    (sym (take-append-drop n bytes)) c.line_start-whole.ensures.whole c.in_err-lines.ensures.stops)
