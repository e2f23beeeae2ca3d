use Rattle.std.proofs.Common.{◌≡◌, ◌+◌, ◌-◌, length, take, drop, ◌∙◌, ap, arith}
use Rattle.std.proofs.lemmas.List.{take_rest, length-drop}
use Rattle.body_lines.specs.Lines.{cut_lines}
use Rattle.wait_requests.specs.Inner.Hearing.{before_lines}
use Rattle.wait_requests.proofs.HeapFacts.{all-heard, keeps-same, keeps-then, rest-more, stops-any}
use Rattle.wait_requests.proofs.heap_sink.HeapSinkLineSink.lines.Goals as goal

pub loop-done-init : goal.loop-done-init
loop-done-init c =
    let place : c.args.at + 0 ≡ c.args.at = omega arith in
    record { within = omega arith; keeps = keeps-same c.args.self.now; rest = ap (λ n. before_lines c.args.self.now n c.args.run.now) place }

pub loop-done-preserved : goal.loop-done-preserved
loop-done-preserved c =
    let before = c.loop-done.invariant in
    let one = c.in_ok-done.ensures in
    let run = c.args.run.now in
    let done = c.loop-done.done in
    let hay = take (length run - done) (drop done run) in
    let size : length hay ≡ length run - done = ap length (take_rest run done) ∙ length-drop done run in
    record {
      within = omega (arith, one.within, size, before.within);
      keeps = keeps-then c.args.self.now c.loop-done.self c.hear_first.new.sink before.keeps one.heard.keeps;
      rest = rest-more c.args.self.now c.loop-done.self c.hear_first.new.sink c.args.at run hay done c.in_ok-done.field-0 (take_rest run done) before.rest one.heard;
    }

pub returns-clause-hears : goal.returns-clause-hears
returns-clause-hears c =
    all-heard c.args.self.now c.loop-done.self c.args.at c.args.run.now c.loop-done.done (omega (arith, c.loop-done-test.false)) c.loop-done.invariant.keeps c.loop-done.invariant.rest

pub returns-in_err-done-clause-stops : goal.returns-in_err-done-clause-stops
returns-in_err-done-clause-stops c = stops-any c.args.self.now c.hear_first.new.sink (cut_lines 4134 c.args.at c.args.run.now) c.from_residual.result
