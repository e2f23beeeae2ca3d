use Rattle.std.proofs.Common.{ap, sym, ◌∙◌}
use Rattle.dump_io.specs.Laws.Puts.{Puts-as}
use Rattle.section_index.specs.declared.opening.OpenFault.TheVariants.{Version}
use Rattle.report_text.specs.declared.refusals.Refusal.TheVariants.{Open}
use Rattle.report_text.specs.Refusals.{refusal_line}
use Rattle.report_text.proofs.refusals.put_open_fault.Goals as goal

pub returns-in-Compressed : goal.returns-in-Compressed
returns-in-Compressed g c = Puts-as (ap (λ f. refusal_line (Open f)) (sym c.in-Compressed.is)) c.write_all.ensures.puts

pub returns-in-NotADump : goal.returns-in-NotADump
returns-in-NotADump g c = Puts-as (ap (λ f. refusal_line (Open f)) (sym c.in-NotADump.is)) c.write_all-in-NotADump.ensures.puts

pub returns-in-Version : goal.returns-in-Version
returns-in-Version g c =
    Puts-as (ap (λ t. refusal_line (Open (Version t))) c.bytes.ensures ∙ ap (λ f. refusal_line (Open f)) (sym c.in-Version.is)) c.put_cause.ensures

pub returns-in-TooLarge : goal.returns-in-TooLarge
returns-in-TooLarge g c = Puts-as (ap (λ f. refusal_line (Open f)) (sym c.in-TooLarge.is)) c.put_cause-in-TooLarge.ensures

pub returns-in-HeaderTooLong : goal.returns-in-HeaderTooLong
returns-in-HeaderTooLong g c = Puts-as (ap (λ f. refusal_line (Open f)) (sym c.in-HeaderTooLong.is)) c.put_cause-in-HeaderTooLong.ensures

pub returns-in-TooManySections : goal.returns-in-TooManySections
returns-in-TooManySections g c = Puts-as (ap (λ f. refusal_line (Open f)) (sym c.in-TooManySections.is)) c.put_cause-in-TooManySections.ensures

pub returns-in-HeadersTooLarge : goal.returns-in-HeadersTooLarge
returns-in-HeadersTooLarge g c = Puts-as (ap (λ f. refusal_line (Open f)) (sym c.in-HeadersTooLarge.is)) c.put_cause-in-HeadersTooLarge.ensures
