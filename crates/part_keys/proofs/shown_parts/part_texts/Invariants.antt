use Rattle.std.proofs.Common.{◌≡◌, take, map}
use Rattle.part_keys.specs.Inner.PartTexts.{part_text}
use Rattle.part_keys.proofs.shown_parts.part_texts.Given as goal

-- the shapes of the parts so far
abbrev pub invariant-loop-part : goal.invariant-loop-part
invariant-loop-part l = l.texts ≡ map (part_text l.skeleton l.firsts l.tuples) (take l.part-index l.parts)
