use Rattle.term_forms.proofs.LedLines.{found_line, no_line}
use Rattle.term_forms.proofs.words.heap_line.Goals as goal

pub returns-clause-found : goal.returns-clause-found
returns-clause-found c = found_line c.args.text.now c.split_number.result c.split_number.ensures.exact

pub returns-clause-none : goal.returns-clause-none
returns-clause-none c = no_line c.args.text.now c.split_number.result c.split_number.ensures.exact
