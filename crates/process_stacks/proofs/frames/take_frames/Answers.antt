use Rattle.std.proofs.Common.{◌≡◌, ◌∷◌, drop, take, sym, ◌∙◌, ap}
use Rattle.dump_io.specs.Lines.{raw_lines}
use Rattle.std.proofs.lemmas.Result.{err_from_is_err_and}
use Rattle.process_stacks.proofs.FrameFacts.{TookFront-more, TookFront-none, StopsWithin-front}
use Rattle.process_stacks.proofs.frames.take_frames.Goals as goal

pub loop-rest-init : goal.loop-rest-init
loop-rest-init c = record { ready = c.requires; took = TookFront-none c.args.sink.now c.args.run.now }

pub loop-rest-preserved : goal.loop-rest-preserved
loop-rest-preserved c =
    let rest = c.loop-rest.rest.now in
    let size = c.line_len-size.result in
    let first : raw_lines rest ≡ take size rest ∷ raw_lines c.bytes_from-rest.result.now = c.line_len-size.ensures.first ∙ ap (λ l. take size rest ∷ raw_lines l) (sym c.bytes_from-rest.ensures) in
    record {
      ready = c.in_ok-take_line.ensures.«open»;
      took = TookFront-more c.args.sink.now c.loop-rest.sink c.take_line.new.sink c.args.run.now rest (take size rest) c.bytes_from-rest.result.now first c.loop-rest.invariant.took c.in_ok-take_line.ensures.takes;
    }

pub returns-in_err-take_line-clause-stops : goal.returns-in_err-take_line-clause-stops
returns-in_err-take_line-clause-stops c =
    let p = err_from_is_err_and c.from_residual.result c.from_residual.ensures.1 in
    let rest = c.loop-rest.rest.now in
    let size = c.line_len-size.result in
    rw (p.1, p.2)
    (StopsWithin-front c.args.sink.now c.loop-rest.sink c.take_line.new.sink c.args.run.now rest (take size rest) (drop size rest) c.in_err-take_line.field-0.0 c.line_len-size.ensures.first
    c.loop-rest.invariant.took c.in_err-take_line.ensures.stops)
