use Rattle.dump_io.specs.Laws.Puts.{HasPut-more, Puts-broken}
use Rattle.link_graph.specs.Lists.{links_at}
use Rattle.report_text.specs.Links.{entry_line}
use Rattle.report_text.proofs.link_report.put_entries.Goals as goal

pub loop-n-preserved : goal.loop-n-preserved
loop-n-preserved g c =
    HasPut-more (entry_line c.args.pid.now) (links_at c.args.graph.now c.args.p).entries c.loop-n.n _ c.entry.ensures c.loop-n.invariant c.in_ok-put_entry.ensures

pub returns-in_err-put_entry : goal.returns-in_err-put_entry
returns-in_err-put_entry g c =
    Puts-broken (entry_line c.args.pid.now) (links_at c.args.graph.now c.args.p).entries c.loop-n.n _ c.entry.ensures c.loop-n.invariant c.from_residual.ensures.0 c.in_err-put_entry.ensures
