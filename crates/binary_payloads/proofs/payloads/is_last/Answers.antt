use Rattle.std.proofs.Common.{sym, ◌∙◌}
use Rattle.binary_payloads.proofs.WholeGroups.{payload-empty, empty-payload}
use Rattle.binary_payloads.proofs.payloads.is_last.Goals as goal

pub returns-then-size-eq0 : goal.returns-then-size-eq0
returns-then-size-eq0 c = (
  λ yes. empty-payload c.args.enc c.args.chars.now c.args.size (sym c.is_empty.ensures ∙ yes) c.if-size-eq0.true,
  λ is. c.is_empty.ensures ∙ payload-empty c.args.enc c.args.chars.now c.args.size is c.if-size-eq0.true,
)
