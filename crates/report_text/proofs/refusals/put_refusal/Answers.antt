use Rattle.std.proofs.Common.{ap, sym, ◌∙◌}
use Rattle.dump_io.specs.Laws.Puts.{Puts-as}
use Rattle.report_text.specs.declared.refusals.Refusal.TheVariants.{NoProcess}
use Rattle.report_text.specs.Refusals.{refusal_line}
use Rattle.report_text.proofs.refusals.put_refusal.Goals as goal

pub returns-in-SectionTooLarge : goal.returns-in-SectionTooLarge
returns-in-SectionTooLarge g c = Puts-as (ap refusal_line (sym c.in-SectionTooLarge.is)) c.put_long_cause.ensures

pub returns-in-NoProcess : goal.returns-in-NoProcess
returns-in-NoProcess g c = Puts-as (ap (λ t. refusal_line (NoProcess t)) c.bytes.ensures ∙ ap refusal_line (sym c.in-NoProcess.is)) c.put_cause.ensures

pub returns-in-TooDense : goal.returns-in-TooDense
returns-in-TooDense g c = Puts-as (ap refusal_line (sym c.in-TooDense.is)) c.put_cause-in-TooDense.ensures

pub returns-in-NoAddress : goal.returns-in-NoAddress
returns-in-NoAddress g c = Puts-as (ap refusal_line (sym c.in-NoAddress.is)) c.put_cause-in-NoAddress.ensures

pub returns-in-NotExt : goal.returns-in-NotExt
returns-in-NotExt g c = Puts-as (ap refusal_line (sym c.in-NotExt.is)) c.put_cause-in-NotExt.ensures

pub returns-in-BadExt : goal.returns-in-BadExt
returns-in-BadExt g c = Puts-as (ap refusal_line (sym c.in-BadExt.is)) c.put_long_cause-in-BadExt.ensures

pub returns-in-NoBinary : goal.returns-in-NoBinary
returns-in-NoBinary g c = Puts-as (ap refusal_line (sym c.in-NoBinary.is)) c.put_cause-in-NoBinary.ensures

pub returns-in-BadBinary : goal.returns-in-BadBinary
returns-in-BadBinary g c = Puts-as (ap refusal_line (sym c.in-BadBinary.is)) c.put_cause-in-BadBinary.ensures
