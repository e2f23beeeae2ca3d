use Rattle.std.proofs.lemmas.Result.{err_from_is_err_and}
use Rattle.dump_questions.proofs.Openings.{HasOpened-built, IsUnopened-built}
use Rattle.dump_questions.proofs.open.open_dump.Goals as goal

pub returns-in_err-build : goal.returns-in_err-build
returns-in_err-build g c =
    let p = err_from_is_err_and c.from_residual.result c.from_residual.ensures.1 in
    let built = c.in_err-build.ensures in
    rw (p.1, p.2) (IsUnopened-built _ _ _ _ _ built.device built.answer built.absent built.read)

pub returns : goal.returns
returns g c =
    let built = c.in_ok-build.ensures in
    HasOpened-built _ _ _ _ _ built.device built.answer built.absent built.over
