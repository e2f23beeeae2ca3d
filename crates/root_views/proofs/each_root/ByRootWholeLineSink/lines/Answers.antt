use Rattle.std.proofs.Common.{refl}
use Rattle.body_lines.specs.Lines.{lines_at}
use Rattle.root_views.specs.Inner.Each.{HearsThrough}
use Rattle.root_views.proofs.EachFacts.{run-through}
use Rattle.root_views.proofs.HearFacts.{stops-anywhere}
use Rattle.root_views.proofs.each_root.ByRootWholeLineSink.lines.Goals as goal

pub returns-clause-hears : goal.returns-clause-hears
returns-clause-hears g c = run-through g.S.EachRoot.hears c.args.self.now _ c.args.at c.args.run.now c.hear_each.result refl refl c.hear_each.ensures.hears

pub returns-clause-stops : goal.returns-clause-stops
returns-clause-stops g c = stops-anywhere (HearsThrough g.S.EachRoot.hears) c.args.self.now _ (lines_at c.args.at c.args.run.now) c.hear_each.result
