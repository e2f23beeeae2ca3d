use Rattle.std.proofs.Common.{sym, ◌∙◌, ap}
use Rattle.term_unfold.specs.Inner.Rest.{is_next_value}
use Rattle.term_unfold.proofs.Turning.{odd-is_value}
use Rattle.term_unfold.proofs.turns.is_value.Goals as goal

pub returns-in-Flat : goal.returns-in-Flat
returns-in-Flat c = odd-is_value c.args.entry.next ∙ sym (ap (λ k. is_next_value k c.args.entry.next) c.in-Flat.is)
