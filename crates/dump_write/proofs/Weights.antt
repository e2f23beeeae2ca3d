-- A heap line has at least two bytes for itself, and two for each element.
use Rattle.std.proofs.Common.{◌≡◌, ℕ, ◌+◌, ◌*◌, ◌≤◌, List, [], ◌∷◌, ◌++◌, length, Some, ap, arith, length-append, inl, inr}
use Rattle.dump_io.specs.Colons.{colon}
use Rattle.dump_io.specs.Numbers.{hex_number}
use Rattle.binary_payloads.specs.declared.enc.Enc.{Enc}
use Rattle.term_forms.specs.Elements.{Element, Nil, Small, Atom, Pid, Port, Ref, IsElem}
use Rattle.term_forms.specs.Forms.{HeapForm, Cons, Tuple, Flat, Hash, Node, IsForm}
use Rattle.term_forms.specs.Joined.{IsJoined}
use Rattle.term_forms.specs.Places.{elements_of}
use Rattle.term_forms.specs.Words.{bar, comma, IsLed}

-- an element has a byte
some_byte : {text rest : List ℕ} {c : ℕ} → text ≡ c ∷ rest → 1 ≤ length text
some_byte same = omega (arith, ap length same)

element_bytes : (text : List ℕ) (e : Element) → IsElem text e → 1 ≤ length text
element_bytes text Nil is = some_byte is
element_bytes text (Small integer) is = some_byte is.0
element_bytes text (Atom bytes) is = some_byte is.1
element_bytes text (Pid pid) is = some_byte is.0
element_bytes text (Port port) is = elim is.0 [ inl e ↦ some_byte e | inr e ↦ some_byte e ]
element_bytes text (Ref address) is = some_byte is.1

-- elements have two bytes each, but for the last comma
joined_bytes : (text : List ℕ) (es : List Element) → IsJoined text es → 2 * length es ≤ length text + 1
joined_bytes text [] is = omega arith
joined_bytes text (e ∷ []) is = omega (arith, element_bytes text e is)
joined_bytes text (e ∷ d ∷ es) is =
    omega (arith, ap length is.2, length-append is.0 (comma ∷ is.1), element_bytes is.0 e is.3, joined_bytes is.1 (d ∷ es) is.4)

no_digits : (n : ℕ) → hex_number [] ≡ Some n → 1 ≤ 0
no_digits n is = cc

hex_bytes : (hex : List ℕ) (n : ℕ) → hex_number hex ≡ Some n → 1 ≤ length hex
hex_bytes [] n is = no_digits n is
hex_bytes (c ∷ hex) n is = omega arith

-- what stands behind a number and a colon is shorter by two bytes
pub led_bytes : (text : List ℕ) (n : ℕ) (rest : List ℕ) → IsLed text n rest → length rest + 2 ≤ length text
led_bytes text n rest is = omega (arith, ap length is.2, length-append is.0 (colon ∷ rest), hex_bytes is.0 n is.1)

-- a form has two bytes for each element
pub form_bytes : (enc : Enc) (text : List ℕ) (f : HeapForm) → IsForm enc text f → 2 * length (elements_of f) ≤ length text
form_bytes enc text (Cons head tail) is =
    omega (arith, ap length is.2, length-append is.0 (bar ∷ is.1), element_bytes is.0 head is.3, element_bytes is.1 tail is.4)
form_bytes enc text (Tuple elements) is = omega (arith, ap length is.2, led_bytes is.0 (length elements) is.1 is.3, joined_bytes is.1 elements is.4)
form_bytes enc text (Flat keys values) is =
    omega (arith, ap length is.3, led_bytes is.0 (length values) (is.1 ++ colon ∷ is.2) is.4, length-append is.1 (colon ∷ is.2), element_bytes is.1 keys is.5, joined_bytes is.2 values is.6)
form_bytes enc text (Hash size children) is =
    omega (arith, ap length is.3, led_bytes is.0 size is.1 is.4, led_bytes is.1 (length children) is.2 is.5, joined_bytes is.2 children is.6)
form_bytes enc text (Node children) is = omega (arith, ap length is.2, led_bytes is.0 (length children) is.1 is.3, joined_bytes is.1 children is.4)
form_bytes enc text f is = omega arith
