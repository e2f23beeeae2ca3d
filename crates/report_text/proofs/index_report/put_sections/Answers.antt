use Rattle.dump_sections.specs.Index.{sections_in}
use Rattle.dump_io.specs.Laws.Puts.{HasPut-more, Puts-broken}
use Rattle.report_text.specs.Reports.{section_line}
use Rattle.report_text.proofs.index_report.put_sections.Goals as goal

pub loop-i-preserved : goal.loop-i-preserved
loop-i-preserved g c =
    HasPut-more section_line (sections_in c.args.index.now) c.loop-i.i _ c.extent.ensures.place c.loop-i.invariant c.in_ok-put_section.ensures

pub returns-in_err-put_section : goal.returns-in_err-put_section
returns-in_err-put_section g c =
    Puts-broken section_line (sections_in c.args.index.now) c.loop-i.i _ c.extent.ensures.place c.loop-i.invariant c.from_residual.ensures.0 c.in_err-put_section.ensures
