use Rattle.std.proofs.Common.{◌≡◌, ◌++◌, map, take}
use Rattle.part_keys.specs.Inner.PartTexts.{value_place}
use Rattle.part_keys.proofs.needed.read_places.Given as goal

-- the places of the keys, and those of the parts so far
abbrev pub invariant-loop-part : goal.invariant-loop-part
invariant-loop-part l = l.places.items ≡ l.keys ++ map value_place (take l.part-index l.parts)
