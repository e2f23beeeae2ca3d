use Rattle.std.proofs.Common.{◌+◌, ◌++◌, sym, ap, arith}
use Rattle.cell_parts.specs.Inner.Walking.{waiting}
use Rattle.cell_parts.proofs.Spots.{spots-end}
use Rattle.cell_parts.proofs.elements.go_on.Goals as goal

pub returns-else-at-places-clause-waiting : goal.returns-else-at-places-clause-waiting
returns-else-at-places-clause-waiting c =
    let kinds = c.args.skeleton.now.kinds in
    let graph = c.args.skeleton.now.leads in
    ap (λ spots. spots ++ waiting kinds graph c.args.frames.now.items)
    (sym (spots-end kinds graph c.args.at.cell (c.args.at.place + 1) (omega (arith, c.places.ensures, c.if-at-places.false, c.requires.place))))
