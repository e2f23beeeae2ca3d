use Rattle.std.proofs.Common.{refl}
use Rattle.body_lines.specs.Lines.{lines_at}
use Rattle.tuple_fronts.proofs.HearFacts.{hears-takes, run-stops}
use Rattle.tuple_fronts.proofs.front_sink.FrontSinkWholeLineSink.lines.Goals as goal

pub returns-in_err-self-clause-stops : goal.returns-in_err-self-clause-stops
returns-in_err-self-clause-stops c =
    let old = c.args.self.now in
    run-stops c.from_residual.result old (record { skeleton = old.skeleton; cells = old.cells; enc = old.enc; kept = c.keep_run.new.kept }) (lines_at c.args.at c.args.run.now)

pub returns-clause-hears : goal.returns-clause-hears
returns-clause-hears c =
    let old = c.args.self.now in
    hears-takes old (record { skeleton = old.skeleton; cells = c.in_ok-self.field-0; enc = old.enc; kept = c.keep_run.new.kept }) (lines_at c.args.at c.args.run.now)
    (record { skeleton = refl; enc = refl; left = c.in_ok-self.ensures.left; keeps = c.in_ok-self.ensures.keeps })
