use Rattle.std.proofs.Common.{length, ap, arith}
use Rattle.cell_parts.specs.Parts.{CellParts}
use Rattle.cell_parts.proofs.Keeping.{length-parts}
use Rattle.cell_parts.proofs.parts.Parts.len.Goals as goal

pub returns : goal.returns
returns c =
    let inside = c.self.inside in
    let kept = length-parts inside.labels.items inside.cells.items inside.kept.items c.self.invariant.same in
    omega (arith, c.len.ensures, inside.cells.ok.0, kept, ap (λ (v : CellParts). length v.parts) c.self.view_is)
