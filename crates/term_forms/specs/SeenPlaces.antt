-- What contracts see of an element with its place.
use Rattle.term_forms.specs.Places.{Placed}
use Rattle.term_forms.specs.Seen.{element}
use Rattle.term_forms.specs.declared.shapes.PlacedElem.{PlacedElem}

-- the element's value, and where its spelling stands
abbrev pub placed : PlacedElem → Placed
placed found = record { at = found.at; len = found.len; element = element found.elem }
