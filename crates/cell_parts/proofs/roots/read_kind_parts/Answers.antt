use Rattle.std.proofs.Common.{[]}
use Rattle.cell_parts.proofs.roots.read_kind_parts.Goals as goal

pub returns-clause-parts : goal.returns-clause-parts
returns-clause-parts g c = λ bytes is. c.in_ok-hear_kind.ensures.gains.parts bytes is [] c.in_ok-new.ensures.none
