use Rattle.std.proofs.Common.{sym}
use Rattle.heap_cells.proofs.SpelledFacts.{atom-read}
use Rattle.heap_cells.proofs.spelled.atom.Goals as goal

pub returns : goal.returns
returns c = atom-read c.args.rest.now _ c.in_ok-name.name.now c.whole_is_read.ensures.found c.number_is_read.ensures c.requires (sym c.in_ok-name.ensures.exact)
