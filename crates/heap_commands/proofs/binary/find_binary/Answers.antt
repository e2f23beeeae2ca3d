use Rattle.std.proofs.Common.{ap, sym}
use Rattle.heap_commands.specs.Terms.{binary_cause}
use Rattle.heap_commands.proofs.binary.find_binary.Goals as goal

pub returns-in_default-clause-judges : goal.returns-in_default-clause-judges
returns-in_default-clause-judges c = (tt, ap (binary_cause c.args.addr) (sym c.in_default.ensures.section))

pub returns-clause-judges : goal.returns-clause-judges
returns-clause-judges c = ap (binary_cause c.args.addr) (sym c.in-Some.ensures.section)

pub returns-clause-there : goal.returns-clause-there
returns-clause-there c = sym c.in-Some.ensures.section
