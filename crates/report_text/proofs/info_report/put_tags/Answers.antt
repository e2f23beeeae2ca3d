use Rattle.dump_io.specs.Laws.Puts.{HasPut-more, Puts-broken}
use Rattle.report_text.specs.Reports.{tag_line}
use Rattle.report_text.proofs.info_report.put_tags.Goals as goal

pub loop-i-preserved : goal.loop-i-preserved
loop-i-preserved g c = HasPut-more tag_line c.args.tags.now c.loop-i.i _ c.at-count.ensures c.loop-i.invariant c.in_ok-put_tag.ensures

pub returns-in_err-put_tag : goal.returns-in_err-put_tag
returns-in_err-put_tag g c =
    Puts-broken tag_line c.args.tags.now c.loop-i.i _ c.at-count.ensures c.loop-i.invariant c.from_residual.ensures.0 c.in_err-put_tag.ensures
