use Rattle.std.proofs.Common.{Some, ◌∙◌, ap, sym, arith}
use Rattle.heap_weights.proofs.walking.lead_of.Goals as goal

pub returns-then-place-places : goal.returns-then-place-places
returns-then-place-places g c = (c.requires.lasts.each c.args.cell c.requires.cell).last c.args.place (omega arith) ∙ ap Some (sym c.cell_for.ensures)
