use Rattle.std.proofs.Common.{◌+◌, length, ◌∙◌, arith}
use Rattle.heap_skeleton.proofs.ShownFacts.{span-at, start-in, starts-count}
use Rattle.heap_skeleton.proofs.skeleton.span_of.Goals as goal

pub returns : goal.returns
returns c = λ parts are laid.
    let starts = c.args.starts.now in
    let total = length c.args.leads.now in
    span-at parts c.args.leads.now c.args.cell c.start_in-from.result c.start_in-upto.result (omega (arith, c.requires, starts-count parts starts are)) laid
    (c.start_in-from.ensures ∙ start-in parts starts c.args.cell total are) (c.start_in-upto.ensures ∙ start-in parts starts (c.args.cell + 1) total are)
