use Rattle.std.proofs.Common.{◌≡◌, length, map, take}
use Rattle.part_keys.specs.KeyPlaces.{AreKeysWithin, key_place}
use Rattle.part_weights.specs.Held.{held_place}
use Rattle.part_weights.proofs.weights.held_keys.Given as goal

-- the keys of the parts so far
abbrev pub invariant-loop-i : goal.invariant-loop-i
invariant-loop-i l = record {
  keys : l.keys.items ≡ map (λ h. key_place l.skeleton (held_place l.cell l.parts.parts h)) (take l.i l.held);
  within : AreKeysWithin (length l.skeleton.leads) l.keys.items;
}
