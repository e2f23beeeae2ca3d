use Rattle.std.proofs.Common.{rules, sym, ◌∙◌, ap}
use Rattle.std.specs.Prelude.{option_and_then}
use Rattle.etf_terms.specs.References.{words_in}
use Rattle.etf_terms.specs.Inner.Parts.{head}
use Rattle.etf_terms.proofs.ReferenceFacts.{head-off, head-read}
use Rattle.etf_terms.proofs.references.words_in.Goals as goal

pub returns-in-Ok : goal.returns-in-Ok
returns-in-Ok c = c.words_of.ensures ∙ ap (option_and_then words_in) (head-read c.args.bytes.now (head c.in-Ok.read) c.in-Ok.behind.now c.in-Ok.ensures)

pub returns-in-Err : goal.returns-in-Err
returns-in-Err c = ap (option_and_then words_in) (head-off c.args.bytes.now c.in-Err.field-0 c.in-Err.ensures)
