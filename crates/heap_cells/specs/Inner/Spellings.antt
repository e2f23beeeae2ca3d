-- Elements, and the parts of a text that spell them.
use Rattle.std.specs.Prelude.{◌≡◌, ℕ, ◌+◌, ◌≤◌, List, length, slice_range, Some}
use Rattle.term_forms.specs.Places.{Placed}
use Rattle.term_forms.specs.Reading.{whole_of}

-- the part of the text at the element's place spells it
pub record IsSpelling (text : List ℕ) (p : Placed) : Type 0 where
  pub within : p.at + p.len ≤ length text
  pub spells : whole_of (slice_range text p.at (p.at + p.len)) ≡ Some p.element
