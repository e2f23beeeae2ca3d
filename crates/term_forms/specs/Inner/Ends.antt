-- What is left of a text while it is read.
use Rattle.std.specs.Prelude.{◌≡◌, ℕ, List, ◌++◌}
use Rattle.std.specs.Borrow.{Bor}
use Rattle.term_forms.specs.Elements.{Element}
use Rattle.term_forms.specs.Seen.{element}
use Rattle.term_forms.specs.declared.shapes.Elem.{Elem}
use Rattle.term_forms.specs.declared.shapes.PlacedElem.{PlacedElem}

-- the text ends in `rest`
pub record IsEnd (text rest : List ℕ) : Type 0 where
  pub before : List ℕ
  pub split : text ≡ before ++ rest

-- the value of an element, with a text
abbrev pub element_rest : Elem × Bor (List ℕ) → Element × List ℕ
element_rest found = (element found.0, found.1.now)

-- the value of an element with its place, with a text
abbrev pub placed_rest : PlacedElem × Bor (List ℕ) → Element × List ℕ
placed_rest found = (element found.0.elem, found.1.now)
