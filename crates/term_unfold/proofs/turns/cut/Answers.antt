use Rattle.std.proofs.Common.{drop, ap}
use Rattle.term_unfold.specs.Inner.Entries.{Entered}
use Rattle.term_unfold.specs.Inner.Rest.{left_text}
use Rattle.term_unfold.proofs.Turning.{cut-left}
use Rattle.term_unfold.proofs.Turns_made.{cut-turn, outside-fewer}
use Rattle.term_unfold.proofs.turns.cut.Goals as goal

pub returns-in_default-clause-fewer : goal.returns-in_default-clause-fewer
returns-in_default-clause-fewer c =
    outside-fewer c.args.path.now.entries c.leave_node.new.path.entries c.args.entry c.requires.top (ap (λ (p : Entered). p.entries) c.leave_node.ensures)

pub returns-in_default-clause-text : goal.returns-in_default-clause-text
returns-in_default-clause-text c = λ leaf heap child has.
    cut-turn leaf heap _ _ c.args.entry (left_text c.args.entry) _ c.requires.top (ap (λ (p : Entered). p.entries) c.leave_node.ensures) c.left_text.ensures
    (cut-left leaf heap c.args.entry (drop 1 c.args.path.now.entries) child c.in_default.not-Cons has)
