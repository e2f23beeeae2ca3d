-- The laws on forms.
use Rattle.std.proofs.Common.{◌≡◌, ℕ, List, [], ◌∷◌, ◌++◌, length, Option, Some, None, refl, sym, ◌∙◌, inl}
use Rattle.std.specs.Prelude.{◌≢◌, IfSome, IfNone}
use Rattle.std.specs.Option.{option_map}
use Rattle.std.proofs.lemmas.Option.{same_Some}
use Rattle.dump_io.specs.Numbers.{hexadecimal as hex}
use Rattle.binary_payloads.specs.declared.enc.Enc.{Enc}
use Rattle.term_forms.specs.declared.shapes.Elem.{Elem}
use Rattle.term_forms.specs.declared.shapes.Form.{Form}
use Rattle.term_forms.specs.Words.{colon, IsLed}
use Rattle.term_forms.specs.ReadingForms.{form_of}
use Rattle.term_forms.specs.Elements.{Element, IsElem, plain_elem}
use Rattle.term_forms.specs.Joined.{IsJoined, plain_joined}
use Rattle.term_forms.specs.Forms.{HeapForm, Cons, Tuple, Float, Long, Pid, Port, Ext, HeapBin, RefBin, SubBin, Flat, Hash, Node, IsForm, IsRange, plain_form}
use Rattle.term_forms.specs.Places.{elements_of}
use Rattle.term_forms.specs.Reading.{whole_of}
use Rattle.term_forms.specs.Seen.{element}
use Rattle.term_forms.specs.SeenForms.{heap_form}
use Rattle.term_forms.proofs.Hexes.{hex_parts}
use Rattle.term_forms.proofs.PlainHex.{hex_plain}
use Rattle.term_forms.proofs.OfElements.{plain_is}
use Rattle.term_forms.proofs.FormParts.{whole_full, whole_sound}
use Rattle.term_forms.proofs.PayloadTests.{PayloadIsRead}
use Rattle.term_forms.proofs.FormsRead.{form_full}
use Rattle.term_forms.proofs.FormsTaken.{form_sound}

pub one_form : (enc : Enc) → PayloadIsRead enc → (text : List ℕ) (one other : HeapForm) → IsForm enc text one → IsForm enc text other → one ≡ other
one_form enc law text one other is also = same_Some one other (sym (form_full enc law text one is) ∙ form_full enc law text other also)

pub form_none : (enc : Enc) → PayloadIsRead enc → (text : List ℕ) → form_of enc text ≡ None → (f : HeapForm) → IsForm enc text f → ⊥
form_none enc law text h f is = let found : form_of enc text ≡ Some f = form_full enc law text f is in cc

pub form_none_from : (enc : Enc) → PayloadIsRead enc → (text : List ℕ) → ((f : HeapForm) → IsForm enc text f → ⊥) → form_of enc text ≡ None
form_none_from enc law text none = of (form_of enc text) refl
  where
    of : (o : Option HeapForm) → form_of enc text ≡ o → form_of enc text ≡ None
    of None e = e
    of (Some f) e = absurd (none f (form_sound enc law text f e))

-- a form has no elements, unless its text begins with the tag of one that has
pub form-without : (enc : Enc) (tag : ℕ) (text : List ℕ) (f : HeapForm) → (tag ≢ 108) × (tag ≢ 116) × (tag ≢ 77) → IsForm enc (tag ∷ text) f → elements_of f ≡ []
form-without enc tag text (Cons head tail) other is = absurd (other.0 (cc is.2))
form-without enc tag text (Tuple elements) other is = absurd (other.1 (cc is.2))
form-without enc tag text (Flat keys values) other is = absurd (other.2 (cc is.3))
form-without enc tag text (Hash size children) other is = absurd (other.2 (cc is.3))
form-without enc tag text (Node children) other is = absurd (other.2 (cc is.2))
form-without enc tag text f other is = refl

pub plain-without : (enc : Enc) → PayloadIsRead enc → (tag : ℕ) (text : List ℕ) (f : HeapForm) → (tag ≢ 108) × (tag ≢ 116) × (tag ≢ 77)
    → form_of enc (tag ∷ text) ≡ Some f → elements_of f ≡ []
plain-without enc law tag text f other is = form-without enc tag text f other (form_sound enc law (tag ∷ text) f is)

joined_plain : (text : List ℕ) (es : List Element) → IsJoined text es → IsJoined (plain_joined es) es
joined_plain text [] is = refl
joined_plain text (e ∷ []) is = plain_is text e is
joined_plain text (e ∷ d ∷ es) (first, rest, split, one, others) =
    (plain_elem e, plain_joined (d ∷ es), refl, plain_is first e one, joined_plain rest (d ∷ es) others)

-- a led text keeps its number, whatever stands behind it
led_again : (text : List ℕ) (n : ℕ) (rest other : List ℕ) → IsLed text n rest → IsLed (hex n ++ colon ∷ other) n other
led_again text n rest other led = (hex n, hex_plain n (hex_parts led.0 n led.1).small, refl)

range_plain : (text : List ℕ) (address offset size : ℕ) → IsRange text address offset size → IsRange (hex address ++ colon ∷ (hex offset ++ colon ∷ hex size)) address offset size
range_plain text address offset size (behind, digits, a, o, z) =
    (hex offset ++ colon ∷ hex size, hex size, led_again text address behind (hex offset ++ colon ∷ hex size) a, led_again behind offset digits (hex size) o, hex_plain size (hex_parts digits size z).small)

-- a form is spelled by its plain spelling
pub plain_form_is : (enc : Enc) (text : List ℕ) (f : HeapForm) → IsForm enc text f → IsForm enc (plain_form f) f
plain_form_is enc text (Cons head tail) (first, rest, e, h, t) = (plain_elem head, plain_elem tail, refl, plain_is first head h, plain_is rest tail t)
plain_form_is enc text (Tuple es) (led, rest, e, l, is) =
    (hex (length es) ++ colon ∷ plain_joined es, plain_joined es, refl, led_again led (length es) rest (plain_joined es) l, joined_plain rest es is)
plain_form_is enc text (Float bytes) (led, e, l) = (hex (length bytes) ++ colon ∷ bytes, refl, led_again led (length bytes) bytes bytes l)
plain_form_is enc text (Long number) (e, is) = (refl, is)
plain_form_is enc text (Pid pid) (e, is) = (refl, is)
plain_form_is enc text (Port port) (e, is) = (inl refl, is)
plain_form_is enc text (Ext size chars) (led, e, l, is) = (hex size ++ colon ∷ chars, refl, led_again led size chars chars l, is)
plain_form_is enc text (HeapBin size chars) (led, e, l, is) = (hex size ++ colon ∷ chars, refl, led_again led size chars chars l, is)
plain_form_is enc text (RefBin address offset size) (range, e, is) = (hex address ++ colon ∷ (hex offset ++ colon ∷ hex size), refl, range_plain range address offset size is)
plain_form_is enc text (SubBin address offset size) (range, e, is) = (hex address ++ colon ∷ (hex offset ++ colon ∷ hex size), refl, range_plain range address offset size is)
plain_form_is enc text (Flat keys values) (led, first, rest, e, l, k, vs) = (
  hex (length values) ++ colon ∷ (plain_elem keys ++ colon ∷ plain_joined values),
  plain_elem keys,
  plain_joined values,
  refl,
  led_again led (length values) (first ++ colon ∷ rest) (plain_elem keys ++ colon ∷ plain_joined values) l,
  plain_is first keys k,
  joined_plain rest values vs,
)
plain_form_is enc text (Hash size children) (led, counted, rest, e, l, c, is) = (
  hex size ++ colon ∷ (hex (length children) ++ colon ∷ plain_joined children),
  hex (length children) ++ colon ∷ plain_joined children,
  plain_joined children,
  refl,
  led_again led size counted (hex (length children) ++ colon ∷ plain_joined children) l,
  led_again counted (length children) rest (plain_joined children) c,
  joined_plain rest children is,
)
plain_form_is enc text (Node children) (led, rest, e, l, is) =
    (hex (length children) ++ colon ∷ plain_joined children, plain_joined children, refl, led_again led (length children) rest (plain_joined children) l, joined_plain rest children is)

-- what a reader that answers as `form_of` does says of the text
pub found_form : (enc : Enc) → PayloadIsRead enc → (text : List ℕ) (result : Option Form) → option_map heap_form result ≡ form_of enc text → IfSome result (λ f. IsForm enc text (heap_form f))
found_form enc law text None h = tt
found_form enc law text (Some f) h = form_sound enc law text (heap_form f) (sym h)

pub no_form : (enc : Enc) → PayloadIsRead enc → (text : List ℕ) (result : Option Form) → option_map heap_form result ≡ form_of enc text → IfNone result ((f : HeapForm) → IsForm enc text f → ⊥)
no_form enc law text None h = form_none enc law text (sym h)
no_form enc law text (Some f) h = tt

-- ---- the element that is the whole text

pub whole_none : (text : List ℕ) → whole_of text ≡ None → (e : Element) → IsElem text e → ⊥
whole_none text h e is = let found : whole_of text ≡ Some e = whole_full text e is in cc

pub whole_none_from : (text : List ℕ) → ((e : Element) → IsElem text e → ⊥) → whole_of text ≡ None
whole_none_from text none = of (whole_of text) refl
  where
    of : (o : Option Element) → whole_of text ≡ o → whole_of text ≡ None
    of None e = e
    of (Some found) e = absurd (none found (whole_sound text found e))

pub found_whole : (text : List ℕ) (result : Option Elem) → option_map element result ≡ whole_of text → IfSome result (λ e. IsElem text (element e))
found_whole text None h = tt
found_whole text (Some e) h = whole_sound text (element e) (sym h)

pub no_whole : (text : List ℕ) (result : Option Elem) → option_map element result ≡ whole_of text → IfNone result ((e : Element) → IsElem text e → ⊥)
no_whole text None h = whole_none text (sym h)
no_whole text (Some e) h = tt
