use Rattle.std.proofs.Common.{ap, refl}
use Rattle.std.proofs.lemmas.Result.{err_from_is_err_and}
use Rattle.stream_commands.specs.Rows.{redact_row}
use Rattle.dump_questions.specs.Laws.Reading.{ReadsAtMost-same}
use Rattle.stream_commands.proofs.Redacting.{Runs-redact}
use Rattle.dump_questions.specs.Laws.Runs.{Runs-unopened}
use Rattle.stream_commands.proofs.redact.run_redact.Goals as goal

pub returns-in_err-index : goal.returns-in_err-index
returns-in_err-index g c =
    let p = err_from_is_err_and c.from_residual.result c.from_residual.ensures.1 in
    rw (p.1, p.2) (Runs-unopened redact_row _ _ _ _ _ _ _ c.in_err-index.ensures refl)

pub returns : goal.returns
returns g c =
    let d = g.D.Dumps in
    let call = c.redact.ensures in
    rw c.ended.ensures (Runs-redact _ _ _ _ _ c.in_ok-index.index _ _ c.in_ok-index.ensures call.loads.reads (λ some. ReadsAtMost-same d.state _ _ _ call.loads.reads (call.loads.unread some))
    (λ some. ap (λ s. (g.K.Sink.state s).written) (call.unwritten some)) c.redact.result call.writes call.loads.fault call.loads.allowed call.too_large)
