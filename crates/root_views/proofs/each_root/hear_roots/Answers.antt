use Rattle.std.proofs.Common.{rules}
use Rattle.root_views.proofs.EachFacts.{body-heard}
use Rattle.root_views.proofs.each_root.hear_roots.Goals as goal

pub returns-clause-ready : goal.returns-clause-ready
returns-clause-ready g c =
    let body = body-heard g.S.EachRoot.hears _ c.hear_whole_lines.new.sink c.args.from c.args.upto (g.D.Dumps.state c.args.dumps.now).now c.in_ok-hear_whole_lines.ensures.hears in
    let name = body.0 in
    search rules

pub returns-clause-hears : goal.returns-clause-hears
returns-clause-hears g c =
    let body = body-heard g.S.EachRoot.hears _ c.hear_whole_lines.new.sink c.args.from c.args.upto (g.D.Dumps.state c.args.dumps.now).now c.in_ok-hear_whole_lines.ensures.hears in
    let name = body.0 in
    let heard = body.1 in
    search rules
