use Rattle.std.proofs.Common.{arith}
use Rattle.cell_records.specs.declared.cells.Slot.TheVariants as slot
use Rattle.cell_records.proofs.ResolvingFacts.{found-more, found-all}
use Rattle.cell_records.proofs.resolving.push_references.Goals as goal

pub loop-i-preserved : goal.loop-i-preserved
loop-i-preserved c =
    found-more c.args.slots.now c.loop-i.references c.push_reference.new.references c.loop-i.i (slot.Imm (record { at = 0; len = 0 })) c.loop-i-test.true c.loop-i.invariant
    c.in_ok-push_reference.ensures

pub returns : goal.returns
returns c = found-all c.args.slots.now c.loop-i.references c.loop-i.i (omega arith) c.loop-i.invariant
