use Rattle.std.proofs.Common.{◌≡◌, length, map}
use Rattle.cell_records.specs.Resolving.{settled}
use Rattle.cell_records.proofs.resolving.resolve_near.Given as goal

-- each slot is as it was or settled
abbrev pub invariant-loop-i : goal.invariant-loop-i
invariant-loop-i g l = record {
  count : length l.slots ≡ length l.initial.slots;
  half : map (settled (map g.T.Located.address l.cells)) l.slots ≡ map (settled (map g.T.Located.address l.cells)) l.initial.slots;
}
