use Rattle.heap_parts.proofs.ReadFacts.{cut-some, cut-none}
use Rattle.heap_parts.proofs.line_text.cut.Goals as goal

pub returns-in-Some : goal.returns-in-Some
returns-in-Some c = let lf = c.in-Some.ensures in cut-some c.args.piece.now c.in-Some.lf lf.0.high lf.0.before lf.1

pub returns-in-None : goal.returns-in-None
returns-in-None c = cut-none c.args.piece.now c.in-None.ensures
