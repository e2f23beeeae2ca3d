-- The form that a text spells is read.
use Rattle.std.proofs.Common.{◌≡◌, ℕ, ◌==◌, List, ◌∷◌, ◌++◌, length, drop, Some, None, refl, ◌∙◌, ap, if◌then◌else◌, inl, inr}
use Rattle.std.specs.Prelude.{nat_eq, IsTrue}
use Rattle.std.specs.List.{starts_with}
use Rattle.std.proofs.lemmas.Bool.{eq-eqb}
use Rattle.binary_payloads.specs.declared.enc.Enc.{Enc}
use Rattle.term_forms.specs.Words.{colon, bar, is_long, IsBracketed, IsLed, led_of}
use Rattle.term_forms.specs.Reading.{whole_of, ◌>>=◌, port_word}
use Rattle.term_forms.specs.ReadingForms.{form_of, until_of, joined_of, cons_of, counted_of, float_of, bracketed_of, port_of, payload_of, range_of, binary_of, flat_of, hash_of, map_of}
use Rattle.term_forms.specs.Elements.{Element, IsElem}
use Rattle.term_forms.specs.Forms.{HeapForm, Cons, Tuple, Float, Long, Pid, Port, Ext, HeapBin, RefBin, SubBin, Flat, Hash, Node, IsForm}
use Rattle.term_forms.specs.Joined.{IsJoined}
use Rattle.term_forms.proofs.Steps.{bind_from, guard_from}
use Rattle.term_forms.proofs.Hexes.{led_full}
use Rattle.term_forms.proofs.WordTexts.{starts_from}
use Rattle.term_forms.proofs.PayloadTests.{PayloadIsRead}
use Rattle.term_forms.proofs.FormParts.{whole_full, until_full, joined_full, counted_full, bracketed_whole, payload_full, range_full}

cons_full : (text first rest : List ℕ) (head tail : Element) → text ≡ first ++ bar ∷ rest → IsElem first head → IsElem rest tail → cons_of text ≡ Some (Cons head tail)
unfolding cons_of
cons_full text first rest head tail split h t =
    bind_from (until_of bar text) (λ head. whole_of head.1 >>= λ tail. Some (Cons head.0 tail)) (head, rest) (Cons head tail)
    (until_full bar text first rest head (inl refl) split h)
    (bind_from (whole_of rest) (λ tail. Some (Cons head tail)) tail (Cons head tail) (whole_full rest tail t) refl)

float_full : (text bytes : List ℕ) → IsLed text (length bytes) bytes → float_of text ≡ Some (Float bytes)
unfolding float_of
float_full text bytes led =
    bind_from (led_of text) (λ led. if length led.1 == led.0 then Some (Float led.1) else None) (length bytes, bytes) (Float bytes) (led_full text (length bytes) bytes led)
    (guard_from (length bytes == length bytes) (Some (Float bytes)) (eq-eqb (length bytes) (length bytes) refl))

port_at : (text port : List ℕ) (skip : ℕ) → (if starts_with nat_eq text port_word then 5 else 0) ≡ skip → drop skip text ≡ port → IsBracketed port → port_of text ≡ Some (Port port)
unfolding port_of
port_at text port skip e split is =
    ap (λ k. bracketed_of (drop k text) >>= λ port. Some (Port port)) e ∙ ap (λ t. bracketed_of t >>= λ port. Some (Port port)) split
    ∙ bind_from (bracketed_of port) (λ port. Some (Port port)) port (Port port) (bracketed_whole port is) refl

port_plain : (port : List ℕ) → IsBracketed port → port_of port ≡ Some (Port port)
port_plain port is = port_at port port 0 (ap (λ t. if starts_with nat_eq t port_word then 5 else 0) is.3) refl is

port_worded : (port : List ℕ) → IsBracketed port → port_of (port_word ++ port) ≡ Some (Port port)
port_worded port is = port_at (port_word ++ port) port 5 (ap (λ b. if b then 5 else 0) (starts_from port_word port)) refl is

flat_full : (text first rest : List ℕ) (keys : Element) (values : List Element) → IsLed text (length values) (first ++ colon ∷ rest) → IsElem first keys → IsJoined rest values
    → flat_of text ≡ Some (Flat keys values)
unfolding flat_of
flat_full text first rest keys values led k vs =
    bind_from (led_of text) (λ led. until_of colon led.1 >>= λ keys. joined_of led.0 keys.1 >>= λ values. Some (Flat keys.0 values)) (length values, first ++ colon ∷ rest) (Flat keys values)
    (led_full text (length values) (first ++ colon ∷ rest) led)
    (bind_from (until_of colon (first ++ colon ∷ rest)) (λ keys. joined_of (length values) keys.1 >>= λ values. Some (Flat keys.0 values)) (keys, rest) (Flat keys values)
    (until_full colon (first ++ colon ∷ rest) first rest keys (inr (inr refl)) refl k)
    (bind_from (joined_of (length values) rest) (λ values. Some (Flat keys values)) values (Flat keys values) (joined_full rest values vs) refl))

hash_full : (text counted rest : List ℕ) (size : ℕ) (children : List Element) → IsLed text size counted → IsLed counted (length children) rest → IsJoined rest children
    → hash_of text ≡ Some (Hash size children)
unfolding hash_of
hash_full text counted rest size children led count is =
    bind_from (led_of text) (λ led. counted_of led.1 >>= λ children. Some (Hash led.0 children)) (size, counted) (Hash size children) (led_full text size counted led)
    (bind_from (counted_of counted) (λ children. Some (Hash size children)) children (Hash size children) (counted_full counted rest children count is) refl)

long_full : (enc : Enc) (number : List ℕ) → IsTrue (is_long number) → form_of enc (66 ∷ number) ≡ Some (Long number)
unfolding form_of
long_full enc number is = guard_from (is_long number) (Some (Long number)) is

pub form_full : (enc : Enc) → PayloadIsRead enc → (text : List ℕ) (f : HeapForm) → IsForm enc text f → form_of enc text ≡ Some f
unfolding form_of binary_of map_of
form_full enc law text (Cons head tail) (first, rest, e, h, t) = ap (form_of enc) e ∙ cons_full (first ++ bar ∷ rest) first rest head tail refl h t
form_full enc law text (Tuple es) (led, rest, e, l, is) =
    ap (form_of enc) e ∙ bind_from (counted_of led) (λ elements. Some (Tuple elements)) es (Tuple es) (counted_full led rest es l is) refl
form_full enc law text (Float bytes) (led, e, l) = ap (form_of enc) e ∙ float_full led bytes l
form_full enc law text (Long number) (e, is) = ap (form_of enc) e ∙ long_full enc number is
form_full enc law text (Pid pid) (e, is) = ap (form_of enc) e ∙ bind_from (bracketed_of pid) (λ pid. Some (Pid pid)) pid (Pid pid) (bracketed_whole pid is) refl
form_full enc law text (Port port) (inl e, is) = ap (form_of enc) e ∙ port_plain port is
form_full enc law text (Port port) (inr e, is) = ap (form_of enc) e ∙ port_worded port is
form_full enc law text (Ext size chars) (led, e, l, is) =
    ap (form_of enc) e ∙ bind_from (payload_of enc led) (λ ext. Some (Ext ext.0 ext.1)) (size, chars) (Ext size chars) (payload_full enc law led size chars l is) refl
form_full enc law text (HeapBin size chars) (led, e, l, is) =
    ap (form_of enc) e ∙ bind_from (payload_of enc led) (λ bin. Some (HeapBin bin.0 bin.1)) (size, chars) (HeapBin size chars) (payload_full enc law led size chars l is) refl
form_full enc law text (RefBin address offset size) (range, e, is) =
    ap (form_of enc) e ∙ bind_from (range_of range) (λ range. Some (RefBin range.0 range.1 range.2)) (address, offset, size) (RefBin address offset size) (range_full range address offset size is) refl
form_full enc law text (SubBin address offset size) (range, e, is) =
    ap (form_of enc) e ∙ bind_from (range_of range) (λ range. Some (SubBin range.0 range.1 range.2)) (address, offset, size) (SubBin address offset size) (range_full range address offset size is) refl
form_full enc law text (Flat keys values) (led, first, rest, e, l, k, vs) = ap (form_of enc) e ∙ flat_full led first rest keys values l k vs
form_full enc law text (Hash size children) (led, counted, rest, e, l, c, is) = ap (form_of enc) e ∙ hash_full led counted rest size children l c is
form_full enc law text (Node children) (led, rest, e, l, is) =
    ap (form_of enc) e ∙ bind_from (counted_of led) (λ children. Some (Node children)) children (Node children) (counted_full led rest children l is) refl
