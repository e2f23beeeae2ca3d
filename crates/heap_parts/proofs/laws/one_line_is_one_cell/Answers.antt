use Rattle.heap_parts.proofs.LineFacts.{cells-pushed, whole-pushed}
use Rattle.heap_parts.proofs.laws.one_line_is_one_cell.Goals as goal

pub returns-clause-cell : goal.returns-clause-cell
returns-clause-cell c = cells-pushed

pub returns-clause-whole : goal.returns-clause-whole
returns-clause-whole c = whole-pushed
