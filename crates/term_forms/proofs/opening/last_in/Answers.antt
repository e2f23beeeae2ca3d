use Rattle.std.proofs.Common.{sym}
use Rattle.term_forms.specs.Seen.{element}
use Rattle.term_forms.proofs.Ends.{whole-stands}
use Rattle.term_forms.proofs.opening.last_in.Goals as goal

pub returns-clause-stands : goal.returns-clause-stands
returns-clause-stands c = whole-stands c.args.text.now c.args.rest.now (element c.in_ok-elem.elem) c.requires (sym c.in_ok-elem.ensures)
