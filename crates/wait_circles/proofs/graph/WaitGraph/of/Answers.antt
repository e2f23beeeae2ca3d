use Rattle.std.proofs.Common.{◌∙◌, ap, ap₂, length}
use Rattle.wait_circles.specs.Circles.{numbered}
use Rattle.wait_circles.specs.Inner.Blocking.{node_blockers}
use Rattle.wait_circles.specs.Inner.Telling.{circles_below}
use Rattle.wait_circles.proofs.ReportFacts.{report-is}
use Rattle.wait_circles.proofs.graph.WaitGraph.of.Goals as goal

pub returns : goal.returns
returns g c =
    let ws = g.W.Waiting.waiters c.args.waiting.now in
    let leads = c.in_ok-leads.leads.items in
    let n = c.in_ok-leads.ensures.numbered in
    let count = c.len-count.ensures.value in
    let seen = c.as_slice-2.ensures.value ∙ c.in_ok-tokens.ensures.leads in
    report-is ws n.0 leads n.1 c.len-count.ensures.own c.in_ok-blockers.blockers.items c.in_ok-tokens.on_circles.items c.in_ok-tokens.circles
    (c.in_ok-blockers.ensures ∙ ap₂ node_blockers seen count)
    (c.in_ok-tokens.ensures.on ∙ ap (λ m. numbered 1 (circles_below leads m m)) count)
    (c.in_ok-tokens.ensures.circles ∙ ap (λ m. length (circles_below leads m m)) count)
