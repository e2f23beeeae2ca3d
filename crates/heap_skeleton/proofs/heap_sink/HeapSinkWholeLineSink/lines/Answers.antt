use Rattle.std.proofs.Common.{refl}
use Rattle.body_lines.specs.Lines.{lines_at}
use Rattle.heap_skeleton.proofs.HearFacts.{run-hears, run-stops}
use Rattle.heap_skeleton.proofs.heap_sink.HeapSinkWholeLineSink.lines.Goals as goal

pub returns-clause-hears : goal.returns-clause-hears
returns-clause-hears c =
    let old = c.args.self.now in
    run-hears c.gather_run.result old (record { held = c.gather_run.new.held; enc = old.enc }) c.args.at c.args.run.now refl c.gather_run.ensures.gains

pub returns-clause-stops : goal.returns-clause-stops
returns-clause-stops c =
    let old = c.args.self.now in
    run-stops c.gather_run.result old (record { held = c.gather_run.new.held; enc = old.enc }) (lines_at c.args.at c.args.run.now)
