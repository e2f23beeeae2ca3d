-- Elements of a text that are read when they are asked for.
use Rattle.std.specs.Prelude.{◌≡◌, ℕ, ◌+◌, List, ◌∷◌, Option, Some}
use Rattle.std.specs.Option.{option_and_then}
use Rattle.term_forms.specs.Elements.{Element}
use Rattle.term_forms.specs.Forms.{HeapForm}
use Rattle.term_forms.specs.Places.{Placed, StandsAt}

-- a text, how many elements it has to spell from a place on, and those
-- that it spells there; `None` if it doesn't spell that many to its end
pub record Unread : Type 0 where
  pub text : List ℕ
  pub count : ℕ
  pub elements : Option (List Element)

-- the first of the elements is this one, which the text has at this place, and these are left
pub record IsFirstOf (all left : Unread) (found : Placed) : Type 0 where
  pub text : left.text ≡ all.text
  pub count : left.count + 1 ≡ all.count
  pub elements : all.elements ≡ option_and_then (λ es. Some (found.element ∷ es)) left.elements
  pub stands : StandsAt all.text found

-- the form that has these elements, if the text spells them
abbrev pub form_with : (List Element → HeapForm) → Unread → Option HeapForm
form_with form es = option_and_then (λ es. Some (form es)) es.elements
