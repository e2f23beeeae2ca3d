use Rattle.std.proofs.Common.{◌≡◌, ◌+◌, ◌-◌, ◌≤◌, ◌++◌, length, take, drop, sym, ◌∙◌, ap, subst, arith, rules}
use Rattle.std.proofs.lemmas.List.{take_at, length-take-le}
use Rattle.dump_io.specs.Laws.Reads.{ReadsAtMost-none, ReadsAtMost-both}
use Rattle.body_lines.specs.Lines.{HasNoLf, lines_at}
use Rattle.body_lines.specs.Hearing.{Hears, StopsAmong}
use Rattle.body_lines.proofs.Hearings.{Joins-whole}
use Rattle.body_lines.proofs.Readings.{HasRead, HasRead-none, HasRead-after, HearsFront-read, HearsBody-last, StopsFront-fresh, StopsFront-last}
use Rattle.body_lines.proofs.Wholes.{open-free, open-front, takes-piece, stops-piece}
use Rattle.body_lines.proofs.whole_lines.hear_whole_lines.Goals as goal

pub loop-at-init : goal.loop-at-init
loop-at-init g c = record {
  room = omega arith;
  from = omega arith;
  line = omega arith;
  inside = c.requires.ordered;
  ready = c.requires.ready;
  reads = ReadsAtMost-none (c.args.from - c.args.from) (search rules);
  read = HasRead-none g.R.WholeLineSink.hears lines_at Joins-whole _ (c.args.upto - c.args.from) c.args.from c.args.sink.now c.args.buffer.now.items;
}

pub hear_held-requires-clause-free : goal.hear_held-requires-clause-free
hear_held-requires-clause-free g c =
    let before = c.loop-at.invariant in
    let held = c.loop-at.at - c.loop-at.line in
    let keeps : take held c.deref_mut.result.now ≡ take held c.loop-at.buffer.items = ap (take held) c.deref_mut.ensures.value ∙ c.in-Ok.ensures.keeps in
    subst HasNoLf (sym keeps)
    (open-free (c.args.upto - c.args.from) c.loop-at.line c.loop-at.at c.loop-at.buffer.items before.read.front (omega (arith, before.from, before.inside)) before.read.is_open)

pub returns-in-Err-clause-ends : goal.returns-in-Err-clause-ends
returns-in-Err-clause-ends g c =
    let before = c.loop-at.invariant in (
      grind (arith, before.reads.later, c.in-Err.ensures.fault),
      HearsFront-read g.R.WholeLineSink.hears lines_at Joins-whole (g.D.Dumps.state c.args.dumps.now).now (c.args.upto - c.args.from) c.args.from c.args.sink.now c.loop-at.sink c.loop-at.line
          c.loop-at.at c.args.upto c.loop-at.buffer.items before.read before.inside,
    )

pub returns-in-Err-hear_held-clause-ends : goal.returns-in-Err-hear_held-clause-ends
returns-in-Err-hear_held-clause-ends g c =
    let before = c.loop-at.invariant in
    let r = g.R.WholeLineSink in
    let most = c.args.upto - c.args.from in
    let line = c.loop-at.line in
    let at = c.loop-at.at in
    let held = at - line in
    let read = c.in-Ok.ensures in
    let count = c.in-Ok.count in
    let new = c.deref_mut.result.now in
    let value = c.deref_mut.ensures.value in
    let fits : held + count ≤ length new = omega (arith, read.count, ap length value) in
    let within = stops-piece r.hears lines_at most line at (omega (arith, before.from, before.inside)) c.loop-at.sink c.hear_held.new.sink (held + count) (take (held + count) new)
    (length-take-le (held + count) new fits) (omega (arith, before.from, before.line, before.inside, read.count)) r.stops c.in-Err-hear_held.stop c.in-Err-hear_held.ensures.stops in
    StopsFront-fresh r.hears lines_at Joins-whole (g.D.Dumps.state c.args.dumps.now).now most c.args.from c.args.sink.now c.loop-at.sink line at count held c.loop-at.buffer.items new
    (omega (arith, before.from, before.inside)) fits (ap (take held) value ∙ read.keeps) (λ dump is. ap (λ l. take count (drop held l)) value ∙ read.piece dump (before.reads.same_now ∙ is)) before.read
    r.stops c.hear_held.new.sink c.args.upto c.in-Err-hear_held.stop (omega (arith, read.count, before.inside)) within

pub loop-at-preserved : goal.loop-at-preserved
loop-at-preserved g c =
    let before = c.loop-at.invariant in
    let r = g.R.WholeLineSink in
    let now = (g.D.Dumps.state c.args.dumps.now).now in
    let most = c.args.upto - c.args.from in
    let line = c.loop-at.line in
    let at = c.loop-at.at in
    let held = at - line in
    let read = c.in-Ok.ensures in
    let count = c.in-Ok.count in
    let new = c.deref_mut.result.now in
    let value = c.deref_mut.ensures.value in
    let sink = c.hear_held.new.sink in
    let after = c.hear_held.new.buffer in
    let next = c.in-Ok-hear_held.next in
    let grown = c.read_more.new.buffer in
    let takes = c.in-Ok-hear_held.ensures.takes in
    let fits : held + count ≤ length new = omega (arith, read.count, ap length value) in
    let long : length after ≡ length new = c.hear_held.auto.buffer in
    let back : take grown.len (after ++ drop (length after) grown.items) ≡ after = take_at after (drop (length after) grown.items) grown.len (omega (arith, long, c.deref_mut.ensures.len)) in
    let piece = takes-piece r.hears lines_at most line at (omega (arith, before.from, before.inside)) c.loop-at.sink sink (held + count) (take (held + count) new)
    (length-take-le (held + count) new fits) (omega (arith, before.from, before.line, before.inside, read.count)) next after takes in
    let heard : HasRead r.hears lines_at c.args.sink.now sink now most c.args.from next (at + count) after =
    HasRead-after r.hears lines_at Joins-whole now most c.args.from c.args.sink.now c.loop-at.sink line at count held c.loop-at.buffer.items new
    (omega (arith, before.from, before.inside)) fits (ap (take held) value ∙ read.keeps) (λ dump is. ap (λ l. take count (drop held l)) value ∙ read.piece dump (before.reads.same_now ∙ is)) before.read
    sink next after piece in
    record {
      room = omega (arith, ap length back, long, fits, before.line, takes.place);
      from = omega (arith, before.from, takes.place);
      line = omega (arith, heard.is_open.place);
      inside = omega (arith, before.inside, read.count);
      ready = c.in-Ok-hear_held.ensures.ready;
      reads = ReadsAtMost-both before.reads read.taken (omega (arith, before.from, before.line));
      read = subst (λ l. HasRead r.hears lines_at c.args.sink.now sink now most c.args.from next (at + count) l) (sym back) heard;
    }

pub returns-in-Ok-hear_rest-clause-hears : goal.returns-in-Ok-hear_rest-clause-hears
returns-in-Ok-hear_rest-clause-hears g c =
    let before = c.loop-at.invariant in
    let r = g.R.WholeLineSink in
    let now = (g.D.Dumps.state c.args.dumps.now).now in
    let most = c.args.upto - c.args.from in
    let line = c.loop-at.line in
    let items = c.loop-at.buffer.items in
    let is_end : c.loop-at.at ≡ c.args.upto = omega (arith, before.inside, c.loop-at-test.false) in
    let read = subst (λ n. HasRead r.hears lines_at c.args.sink.now c.loop-at.sink now most c.args.from line n items) is_end before.read in
    let front = ap (take (c.args.upto - line)) c.deref.ensures.value ∙ open-front most line c.args.upto items read.front (omega (arith, before.from)) read.is_open in
    HearsBody-last r.hears lines_at Joins-whole now most c.args.from c.args.sink.now c.loop-at.sink c.hear_rest.new.sink line c.args.upto items read
    (subst (λ l. Hears r.hears c.loop-at.sink c.hear_rest.new.sink (lines_at line l)) front c.in-Ok-hear_rest.ensures.hears)

pub returns-in-Err-hear_rest-clause-ends : goal.returns-in-Err-hear_rest-clause-ends
returns-in-Err-hear_rest-clause-ends g c =
    let before = c.loop-at.invariant in
    let r = g.R.WholeLineSink in
    let now = (g.D.Dumps.state c.args.dumps.now).now in
    let most = c.args.upto - c.args.from in
    let line = c.loop-at.line in
    let items = c.loop-at.buffer.items in
    let stop = c.in-Err-hear_rest.stop in
    let is_end : c.loop-at.at ≡ c.args.upto = omega (arith, before.inside, c.loop-at-test.false) in
    let read = subst (λ n. HasRead r.hears lines_at c.args.sink.now c.loop-at.sink now most c.args.from line n items) is_end before.read in
    let front = ap (take (c.args.upto - line)) c.deref.ensures.value ∙ open-front most line c.args.upto items read.front (omega (arith, before.from)) read.is_open in
    StopsFront-last r.hears lines_at Joins-whole now most c.args.from r.stops c.args.sink.now c.loop-at.sink c.hear_rest.new.sink line c.args.upto items stop read
    (subst (λ l. StopsAmong r.hears r.stops c.loop-at.sink c.hear_rest.new.sink (lines_at line l) stop) front c.in-Err-hear_rest.ensures.stops)
