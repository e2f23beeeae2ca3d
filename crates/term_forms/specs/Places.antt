-- Where the elements of a form stand in its text.
use Rattle.std.specs.Prelude.{◌≡◌, ℕ, ◌<◌, List, [], ◌∷◌, length, drop, Some}
use Rattle.term_forms.specs.Elements.{Element}
use Rattle.term_forms.specs.Forms.{HeapForm, Cons, Tuple, Flat, Hash, Node}
use Rattle.term_forms.specs.Reading.{front}

-- the elements of a form in the order of its text: head and tail, the elements of a tuple, the keys element of a flat map
-- before its values, the children; no other form has any
abbrev pub elements_of : HeapForm → List Element
elements_of (Cons head tail) = head ∷ tail ∷ []
elements_of (Tuple elements) = elements
elements_of (Flat keys values) = keys ∷ values
elements_of (Hash size children) = children
elements_of (Node children) = children
elements_of _ = []

-- an element, the number of bytes before its spelling, and the number of bytes that spell it
pub record Placed : Type 0 where
  pub at : ℕ
  pub len : ℕ
  pub element : Element

-- the text from that place on begins with this element and this spelling when it is read
pub record StandsAt (text : List ℕ) (placed : Placed) : Type 0 where
  pub within : placed.at < length text
  pub read : front (drop placed.at text) ≡ Some (placed.element, placed.len)
