use Rattle.std.proofs.Common.{◌≡◌, ◌+◌, ◌-◌, ◌≤◌, ◌++◌, length, take, drop, ◌∙◌, subst, arith, rules}
use Rattle.std.proofs.lemmas.List.{length-append, length-drop, length-take-le}
use Rattle.dump_io.specs.Laws.Reads.{ReadsAtMost-none, ReadsAtMost-both}
use Rattle.body_lines.specs.Lines.{cut_lines}
use Rattle.body_lines.proofs.Hearings.{Joins-cut}
use Rattle.body_lines.proofs.Readings.{HasRead, HasRead-none, HasRead-piece, HearsFront-read, HearsBody-last, StopsFront-fresh, StopsFront-last}
use Rattle.body_lines.proofs.heard_body.hear_body.Goals as goal

pub loop-at-init : goal.loop-at-init
loop-at-init g c = record {
  room = c.requires.room;
  from = omega arith;
  line = omega arith;
  inside = c.requires.ordered;
  ready = c.requires.ready;
  reads = ReadsAtMost-none (c.args.from - c.args.from) (search rules);
  read = HasRead-none g.R.LineSink.hears (cut_lines g.R.LineSink.kept) (Joins-cut g.R.LineSink.kept) _ g.R.LineSink.kept c.args.from c.args.sink.now c.args.buffer.now;
}

pub returns-in_default-clause-ends : goal.returns-in_default-clause-ends
returns-in_default-clause-ends g c =
    let before = c.loop-at.invariant in
    let r = g.R.LineSink in (
      omega (arith, before.reads.later, c.in_default.ensures.failed),
      HearsFront-read r.hears (cut_lines r.kept) (Joins-cut r.kept) (g.D.Dumps.state c.args.dumps.now).now r.kept c.args.from c.args.sink.now c.loop-at.sink c.loop-at.line c.loop-at.at c.args.upto c.loop-at.buffer before.read before.inside,
    )

pub returns-in-Err-clause-ends : goal.returns-in-Err-clause-ends
returns-in-Err-clause-ends g c =
    let before = c.loop-at.invariant in
    let r = g.R.LineSink in
    let read = c.in-Ok.ensures in
    StopsFront-fresh r.hears (cut_lines r.kept) (Joins-cut r.kept) (g.D.Dumps.state c.args.dumps.now).now r.kept c.args.from c.args.sink.now c.loop-at.sink c.loop-at.line c.loop-at.at c.in-Ok.count c.kept_of-kept.result
    c.loop-at.buffer c.read_piece.new.buffer c.kept_of-kept.ensures (omega (arith, read.count, c.read_piece.auto.buffer)) read.keeps (λ dump is. read.piece dump (before.reads.same_now ∙ is)) before.read
    r.stops c.hear_piece.new.sink c.args.upto c.in-Err.stop (omega (arith, read.count, before.inside)) c.in-Err.ensures.stops

pub loop-at-preserved : goal.loop-at-preserved
loop-at-preserved g c =
    let before = c.loop-at.invariant in
    let r = g.R.LineSink in
    let read = c.in-Ok.ensures in
    let count = c.in-Ok.count in
    let kept = c.kept_of-kept.result in
    let buffer = c.read_piece.new.buffer in
    let after = c.hear_piece.new.bytes in
    let next = c.in-Ok-hear_piece.next in
    let fits : kept + count ≤ length buffer = omega (arith, read.count, c.read_piece.auto.buffer) in
    let slice : length after ≡ length (take (kept + count) buffer) = c.hear_piece.auto.bytes in
    let size : length (take (kept + count) buffer) ≡ kept + count = length-take-le (kept + count) buffer fits in
    let heard : HasRead r.hears (cut_lines r.kept) c.args.sink.now c.hear_piece.new.sink (g.D.Dumps.state c.args.dumps.now).now r.kept c.args.from next (c.loop-at.at + count) (after ++ drop (kept + count) buffer) =
    HasRead-piece r.hears (cut_lines r.kept) (Joins-cut r.kept) (g.D.Dumps.state c.args.dumps.now).now r.kept c.args.from c.args.sink.now c.loop-at.sink c.loop-at.line c.loop-at.at count kept
    c.loop-at.buffer buffer c.kept_of-kept.ensures fits read.keeps (λ dump is. read.piece dump (before.reads.same_now ∙ is)) before.read
    c.hear_piece.new.sink next after (drop (kept + count) buffer) slice c.in-Ok-hear_piece.ensures.takes in
    record {
      room = omega (arith, before.room, c.read_piece.auto.buffer, length-append after (drop (kept + count) buffer), length-drop (kept + count) buffer, slice, size, fits);
      from = omega (arith, before.from);
      line = omega (arith, heard.is_open.place);
      inside = omega (arith, before.inside, read.count);
      ready = c.in-Ok-hear_piece.ensures.ready;
      reads = ReadsAtMost-both before.reads read.taken (omega (arith, before.from));
      read = heard;
    }

pub returns-in-Ok-hear_last-clause-hears : goal.returns-in-Ok-hear_last-clause-hears
returns-in-Ok-hear_last-clause-hears g c =
    let before = c.loop-at.invariant in
    let r = g.R.LineSink in
    let now = (g.D.Dumps.state c.args.dumps.now).now in
    let is_end : c.loop-at.at ≡ c.args.upto = omega (arith, before.inside, c.loop-at-test.false) in
    let read = subst (λ n. HasRead r.hears (cut_lines r.kept) c.args.sink.now c.loop-at.sink now r.kept c.args.from c.loop-at.line n c.loop-at.buffer) is_end before.read in
    HearsBody-last r.hears (cut_lines r.kept) (Joins-cut r.kept) now r.kept c.args.from c.args.sink.now c.loop-at.sink c.hear_last.new.sink c.loop-at.line c.args.upto c.loop-at.buffer read
    (c.in-Ok-hear_last.ensures.hears read.front read.is_open)

pub returns-in-Err-hear_last-clause-ends : goal.returns-in-Err-hear_last-clause-ends
returns-in-Err-hear_last-clause-ends g c =
    let before = c.loop-at.invariant in
    let r = g.R.LineSink in
    let now = (g.D.Dumps.state c.args.dumps.now).now in
    let is_end : c.loop-at.at ≡ c.args.upto = omega (arith, before.inside, c.loop-at-test.false) in
    let read = subst (λ n. HasRead r.hears (cut_lines r.kept) c.args.sink.now c.loop-at.sink now r.kept c.args.from c.loop-at.line n c.loop-at.buffer) is_end before.read in
    StopsFront-last r.hears (cut_lines r.kept) (Joins-cut r.kept) now r.kept c.args.from r.stops c.args.sink.now c.loop-at.sink c.hear_last.new.sink c.loop-at.line c.args.upto c.loop-at.buffer c.in-Err-hear_last.stop read
    (c.in-Err-hear_last.ensures.stops read.front read.is_open)
