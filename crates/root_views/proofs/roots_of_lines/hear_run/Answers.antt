use Rattle.std.proofs.Common.{◌∙◌, sym}
use Rattle.body_lines.specs.Lines.{lines_at}
use Rattle.root_views.specs.Inner.Hearing.{roots_of_lines}
use Rattle.root_views.proofs.HearFacts.{passed-takes, run-size}
use Rattle.root_views.proofs.roots_of_lines.hear_run.Goals as goal

pub returns-then-are_passed-clause-takes : goal.returns-then-are_passed-clause-takes
returns-then-are_passed-clause-takes c =
    let kind = c.args.sink.now.kept.kind in
    let run = c.args.run.now in
    passed-takes c.args.sink.now c.add_count.new.sink (roots_of_lines kind (lines_at c.args.at run)) c.root_count-count.result c.add_count.result
    (run-size kind c.args.at run c.root_count-count.result c.root_count-count.ensures) (sym c.are_passed.ensures ∙ c.if-are_passed.true) c.add_count.ensures
