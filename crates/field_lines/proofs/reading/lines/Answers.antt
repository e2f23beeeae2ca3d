use Rattle.std.proofs.Common.{subst, sym, length, ◌≤◌}
use Rattle.std.specs.Prelude.{All}
use Rattle.field_lines.specs.Lines.{IsPart}
use Rattle.field_lines.specs.Laws.{length-text_lines}
use Rattle.field_lines.proofs.PartFacts.{parts}
use Rattle.field_lines.proofs.reading.lines.Goals as goal

pub returns-clause-count : goal.returns-clause-count
returns-clause-count c = subst (λ lines. length lines ≤ length c.args.body.now) (sym c.new.ensures) (length-text_lines c.args.body.now)

pub returns-clause-parts : goal.returns-clause-parts
returns-clause-parts c = subst (λ lines. All (IsPart c.args.body.now) lines) (sym c.new.ensures) (parts c.args.body.now)
