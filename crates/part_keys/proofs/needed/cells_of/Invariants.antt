use Rattle.std.proofs.Common.{◌≡◌, take}
use Rattle.part_keys.specs.Inner.KeyTexts.{all_key_cells}
use Rattle.part_keys.proofs.needed.cells_of.Given as goal

-- the cells of the keys so far
abbrev pub invariant-loop-key : goal.invariant-loop-key
invariant-loop-key l = l.cells.items ≡ all_key_cells (take l.key-index l.keys)
