-- What contracts see of a form whose elements are read when they are asked for.
use Rattle.std.specs.Prelude.{◌≡◌, ℕ, List, [], Option, Some}
use Rattle.term_forms.specs.Forms.{HeapForm, Cons, Tuple, Flat, Hash, Node}
use Rattle.term_forms.specs.Places.{StandsAt, elements_of}
use Rattle.term_forms.specs.Unread.{form_with}
use Rattle.term_forms.specs.Seen.{element}
use Rattle.term_forms.specs.SeenForms.{heap_form}
use Rattle.term_forms.specs.SeenPlaces.{placed}
use Rattle.term_forms.specs.declared.shapes.Opened.{Opened}
use Rattle.term_forms.specs.declared.shapes.Opened.TheVariants as opened

-- the form that the text spells
abbrev pub opened_form : Opened → Option HeapForm
opened_form (opened.List head tail) = Some (Cons (element head.elem) (element tail.elem))
opened_form (opened.Tuple es) = form_with Tuple es
opened_form (opened.Flat keys values) = form_with (Flat (element keys.elem)) values
opened_form (opened.Hash size children) = form_with (Hash size) children
opened_form (opened.Node children) = form_with Node children
opened_form (opened.Plain f) = Some (heap_form f)

-- the elements that were read, and those that are to be read, stand in this text; a plain form has none
abbrev pub IsOpenedIn : List ℕ → Opened → Type 0
IsOpenedIn text (opened.List head tail) = StandsAt text (placed head) × StandsAt text (placed tail)
IsOpenedIn text (opened.Tuple es) = es.text ≡ text
IsOpenedIn text (opened.Flat keys values) = StandsAt text (placed keys) × (values.text ≡ text)
IsOpenedIn text (opened.Hash size children) = children.text ≡ text
IsOpenedIn text (opened.Node children) = children.text ≡ text
IsOpenedIn text (opened.Plain f) = elements_of (heap_form f) ≡ []
