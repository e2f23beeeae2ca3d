use Rattle.std.proofs.Common.{[]}
use Rattle.heap_levels.proofs.descending.parts_of_cell.Goals as goal

pub returns-clause-parts : goal.returns-clause-parts
returns-clause-parts c = c.in_ok-add_elements.ensures.parts [] c.in_ok-parts.ensures.parts
