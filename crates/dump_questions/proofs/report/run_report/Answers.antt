use Rattle.std.proofs.Common.{refl}
use Rattle.std.proofs.lemmas.Result.{err_from_is_err_and}
use Rattle.dump_questions.specs.Laws.Runs.{Runs-halted, Runs-told, Runs-unopened}
use Rattle.dump_questions.proofs.report.run_report.Goals as goal

pub read-requires-clause-asked : goal.read-requires-clause-asked
read-requires-clause-asked g c = c.requires

pub read-requires-clause-over : goal.read-requires-clause-over
read-requires-clause-over g c = c.in_ok-index.ensures.over

pub put-requires : goal.put-requires
put-requires g c = record { asked = c.requires; fits = c.in_ok-loaded.ensures.fits }

pub returns-in_err-index : goal.returns-in_err-index
returns-in_err-index g c =
    let p = err_from_is_err_and c.from_residual.result c.from_residual.ensures.1 in
    rw (p.1, p.2) (Runs-unopened (g.R.Report.means c.args.report.now) _ _ _ _ _ _ _ c.in_err-index.ensures refl)

pub returns-in_err-loaded : goal.returns-in_err-loaded
returns-in_err-loaded g c =
    let p = err_from_is_err_and c.from_residual-in_err-loaded.result c.from_residual-in_err-loaded.ensures.1 in
    rw (p.1, p.2) (Runs-halted (g.R.Report.means c.args.report.now) _ _ c.in_ok-index.index _ c.in_ok-index.ensures c.in_err-loaded.ensures.reads refl)

pub returns : goal.returns
returns g c =
    Runs-told (g.R.Report.means c.args.report.now) _ _ c.in_ok-index.index _ _ c.in_ok-index.ensures c.in_ok-loaded.ensures.reads c.put.ensures
