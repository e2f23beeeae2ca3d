use Rattle.std.proofs.Common.{◌≡◌, ◌+◌, length, take, drop}
use Rattle.std.proofs.lemmas.List.{length-take-le}
use Rattle.body_lines.specs.Lines.{lines_at}
use Rattle.body_lines.proofs.Wholes.{if-takes-longer}
use Rattle.body_lines.proofs.whole_lines.hear_held.Goals as goal

pub returns-clause-takes : goal.returns-clause-takes
returns-clause-takes g c =
    let n = c.args.held + c.args.count in
    let bytes = take n c.args.buffer.now in
    let size : length bytes ≡ n = length-take-le n c.args.buffer.now c.requires.within in
    if-takes-longer g.R.WholeLineSink.hears lines_at c.args.sink.now c.hear_ended.new.sink n c.args.line bytes c.hear_ended.new.bytes (drop n c.args.buffer.now) size
    c.hear_ended.auto.bytes c.hear_ended.result c.hear_ended.ensures.takes
