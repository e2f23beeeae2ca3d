-- What contracts see of elements and forms: their values, regardless of where they lie in memory.
use Rattle.std.specs.Prelude.{ℕ, List}
use Rattle.std.specs.Borrow.{Bor}
use Rattle.term_forms.specs.Elements.{Element, Nil, Small, Atom, Pid, Port, Ref}
use Rattle.term_forms.specs.declared.shapes.Elem.{Elem}
use Rattle.term_forms.specs.declared.shapes.Elem.TheVariants as elem

-- the value of an element
abbrev pub element : Elem → Element
element elem.Nil = Nil
element (elem.Small integer) = Small integer.now
element (elem.Atom bytes) = Atom bytes.now
element (elem.Pid pid) = Pid pid.now
element (elem.Port port) = Port port.now
element (elem.Ref address) = Ref address

-- the value of an element, with a length
abbrev pub element_len : Elem × ℕ → Element × ℕ
element_len found = (element found.0, found.1)

-- a number, with a text
abbrev pub number_rest : ℕ × Bor (List ℕ) → ℕ × List ℕ
number_rest found = (found.0, found.1.now)
