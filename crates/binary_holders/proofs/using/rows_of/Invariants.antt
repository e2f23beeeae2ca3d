use Rattle.binary_holders.specs.Inner.Rows.{AreRows}
use Rattle.binary_holders.proofs.using.rows_of.Given as goal

-- the first rows are there
abbrev pub invariant-loop-k : goal.invariant-loop-k
invariant-loop-k l = AreRows l.index l.stored l.binaries l.holders l.k l.rows.items
