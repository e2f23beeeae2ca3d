use Rattle.std.proofs.Common.{true, refl, arith}
use Rattle.std.specs.Vec.{with_item}
use Rattle.cell_ways.proofs.Sweeping.{lowers-had, lowers-one, read-at}
use Rattle.cell_ways.proofs.sweeps.Sweep.lower.Goals as goal

pub returns-then-before-depth : goal.returns-then-before-depth
returns-then-before-depth c =
    lowers-had c.args.self.now c.args.cell c.args.depth c.index-before.result.now
    (read-at c.args.self.now.depths.items c.args.cell c.index-before.result.now c.requires.cell c.index-before.ensures) (omega arith) c.requires.depth

pub returns : goal.returns
returns c =
    lowers-one c.args.self.now (record { depths = with_item c.args.self.now.depths c.args.cell c.args.depth; changed = true; replaced = c.saturating_add-self.result }) c.args.cell c.args.depth c.index-before.result.now c.requires.cell
    (read-at c.args.self.now.depths.items c.args.cell c.index-before.result.now c.requires.cell c.index-before.ensures) (omega arith) c.requires.depth refl refl
