use Rattle.std.proofs.Common.{◌≡◌, take, map}
use Rattle.part_keys.specs.Inner.KeyTexts.{key_text}
use Rattle.part_keys.proofs.shown_keys.key_texts.Given as goal

-- the shapes of the keys so far
abbrev pub invariant-loop-key : goal.invariant-loop-key
invariant-loop-key l = l.texts ≡ map (key_text l.skeleton l.firsts l.tuples) (take l.key-index l.keys)
