use Rattle.std.proofs.Common.{refl}
use Rattle.std.specs.List.{between}
use Rattle.root_views.proofs.HearFacts.{body-took}
use Rattle.root_views.proofs.shown_roots.take_roots.Goals as goal

pub returns-clause-roots : goal.returns-clause-roots
returns-clause-roots g c = λ dump is.
    let body = c.in_ok-hear_whole_lines.ensures.hears in
    body-took _ c.hear_whole_lines.new.sink c.args.kind c.args.first c.args.most c.args.from (between c.args.from c.args.upto dump) body.lines refl refl refl refl c.new-2.ensures.items body.heard (body.are dump is)
