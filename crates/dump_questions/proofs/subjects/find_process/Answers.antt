use Rattle.std.proofs.Common.{ℕ, List, Option, None, Some, if◌then◌else◌, sym, ◌∙◌, ap}
use Rattle.std.specs.Prelude.{is_some}
use Rattle.dump_sections.specs.Sections.{Section}
use Rattle.report_text.specs.declared.refusals.Refusal.{Refusal}
use Rattle.report_text.specs.declared.refusals.Refusal.TheVariants.{NoProcess}
use Rattle.dump_questions.proofs.subjects.find_process.Goals as goal

-- why the command is refused, by the section that it found
abbrev cause : List ℕ → Option Section → Option Refusal
cause pid found = if is_some found then None else Some (NoProcess pid)

pub returns-in_default-clause-judges : goal.returns-in_default-clause-judges
returns-in_default-clause-judges c = (
  tt,
  ap (cause c.args.pid.now) (sym c.in_default.ensures.section) ∙ ap (λ t. Some (NoProcess t)) (sym c.in_ok-pid.ensures.items ∙ sym c.new.ensures),
)

pub returns-clause-judges : goal.returns-clause-judges
returns-clause-judges c = ap (cause c.args.pid.now) (sym c.in-Some.ensures.section)

pub returns-clause-there : goal.returns-clause-there
returns-clause-there c = sym c.in-Some.ensures.section
