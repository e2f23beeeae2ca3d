use Rattle.std.specs.List.{between}
use Rattle.root_views.proofs.HearFacts.{shown-is}
use Rattle.root_views.proofs.KeepFacts.{kept-placed}
use Rattle.root_views.specs.Inner.Keeping.{kept_all}
use Rattle.root_views.proofs.shown_roots.ShownRoots.load.Goals as goal

pub returns-clause-roots : goal.returns-clause-roots
returns-clause-roots g c = λ dump is.
    let sink = c.in_ok-sink.sink in
    let took = c.in_ok-sink.ensures.roots dump is in
    shown-is c.args.kind c.args.first c.args.most c.args.from (between c.args.from c.args.upto dump) sink.count (kept_all sink.kept) took.count took.kept

pub returns-clause-places : goal.returns-clause-places
returns-clause-places g c =
    let kept = c.in_ok-sink.sink.kept in
    kept-placed kept.kind kept.lines.items c.args.from kept.roots.items c.ranges.from.fits c.in_ok-sink.ensures.ready.each
