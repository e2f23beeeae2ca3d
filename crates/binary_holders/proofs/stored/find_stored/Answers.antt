use Rattle.std.proofs.Common.{arith}
use Rattle.binary_holders.proofs.stored.find_stored.Goals as goal

pub loop-i-preserved : goal.loop-i-preserved
loop-i-preserved c = record {
  few = omega (arith, c.loop-i.invariant.few, c.in_ok-find_at.ensures.grows);
  found = c.in_ok-find_at.ensures.found;
}
