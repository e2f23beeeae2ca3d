-- The texts of elements.
use Rattle.std.proofs.Common.{◌≡◌, ℕ, ◌<◌, List, [], ◌∷◌, length, Some, arith}
use Rattle.term_forms.specs.Elements.{Element}
use Rattle.term_forms.specs.Reading.{front, whole_of}

-- no element has an empty text
pub whole_of-some : (text : List ℕ) (e : Element) → whole_of text ≡ Some e → 0 < length text
unfolding whole_of front
whole_of-some [] e h = cc
whole_of-some (c ∷ text) e h = omega arith
