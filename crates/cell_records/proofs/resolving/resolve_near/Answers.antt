use Rattle.std.proofs.Common.{map, ◌∙◌, arith}
use Rattle.std.proofs.lemmas.List.{length-set}
use Rattle.cell_records.specs.declared.cells.Slot.{Slot}
use Rattle.cell_records.specs.declared.cells.Slot.TheVariants as slot
use Rattle.cell_records.specs.Resolving.{settled}
use Rattle.cell_records.proofs.ResolvingFacts.{half-more}
use Rattle.cell_records.proofs.resolving.resolve_near.Goals as goal

pub loop-i-preserved : goal.loop-i-preserved
loop-i-preserved g c =
    let none : Slot = slot.Imm (record { at = 0; len = 0 }) in
    record {
      count = length-set c.loop-i.slots c.loop-i.i c.settled_near.result ∙ c.loop-i.invariant.count;
      half = half-more (settled (map g.T.Located.address c.args.cells.now)) c.loop-i.slots c.loop-i.i none c.settled_near.result (omega (arith, c.loop-i-test.true, c.loop-i.invariant.count)) c.settled_near.ensures
          ∙ c.loop-i.invariant.half;
    }
