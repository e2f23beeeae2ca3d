use Rattle.heap_cells.proofs.SpelledFacts.{small-read, pid-read}
use Rattle.heap_cells.proofs.spelled.split.Goals as goal

pub returns-in-73 : goal.returns-in-73
returns-in-73 c = small-read c.args.tag c.args.rest.now c.whole_is_read.ensures.found c.in-73.is c.requires

pub returns-in-80 : goal.returns-in-80
returns-in-80 c = pid-read c.args.tag c.args.rest.now c.whole_is_read.ensures.found c.in-80.is c.requires
