use Rattle.body_lines.specs.Lines.{lines_at}
use Rattle.root_views.specs.Inner.Hearing.{TakesLines}
use Rattle.root_views.proofs.HearFacts.{run-hears, stops-anywhere}
use Rattle.root_views.proofs.root_sink.RootSinkWholeLineSink.lines.Goals as goal

pub returns-clause-hears : goal.returns-clause-hears
returns-clause-hears c = run-hears c.args.self.now c.hear_run.new.sink (lines_at c.args.at c.args.run.now) c.hear_run.result c.hear_run.ensures.takes

pub returns-clause-stops : goal.returns-clause-stops
returns-clause-stops c = stops-anywhere TakesLines c.args.self.now c.hear_run.new.sink (lines_at c.args.at c.args.run.now) c.hear_run.result
