-- The laws on elements.
use Rattle.std.proofs.Common.{◌≡◌, ℕ, ◌≤◌, List, [], ◌∷◌, ◌++◌, length, take, drop, Option, Some, None, refl, sym, ◌∙◌, ap, subst, arith, inl, inr}
use Rattle.std.specs.Prelude.{IfSome, IfNone}
use Rattle.std.specs.Option.{option_map}
use Rattle.std.proofs.lemmas.List.{length-take-le, take-append-drop, append-nil}
use Rattle.std.proofs.lemmas.Option.{some_pair_parts}
use Rattle.dump_io.specs.Numbers.{hexadecimal as hex}
use Rattle.term_forms.specs.Words.{colon, IsLed}
use Rattle.term_forms.specs.Reading.{front}
use Rattle.term_forms.specs.Elements.{Element, Nil, Small, Atom, Pid, Port, Ref, IsElem, IsFront, EndsElement, plain_elem}
use Rattle.term_forms.specs.Seen.{element, element_len}
use Rattle.term_forms.specs.declared.shapes.Elem.{Elem}
use Rattle.term_forms.proofs.Hexes.{hex_parts}
use Rattle.term_forms.proofs.PlainHex.{hex_plain}
use Rattle.term_forms.proofs.Fronts.{NoDigit, reach}
use Rattle.term_forms.proofs.FrontsTaken.{front_sound}

-- an element that begins a text is found, or a longer one
begun : (text : List ℕ) (m : ℕ) (other : Element) → m ≤ length text → IsElem (take m text) other → (found : Element) × (len : ℕ) × (front text ≡ Some (found, len)) × (m ≤ len)
begun text m other inside is =
    let r = reach (take m text) other (drop m text) is in
    (r.found, r.len, ap front (sym (take-append-drop m text)) ∙ r.read, omega (arith, r.far, length-take-le m text inside))

pub front_is : (text : List ℕ) (e : Element) (n : ℕ) → front text ≡ Some (e, n) → IsFront text e n
front_is text e n h =
    let is = front_sound text e n h in
    record {
      within = is.0;
      spells = is.1;
      longest = λ m other inside spelled.
          let b = begun text m other inside spelled in
          let same = some_pair_parts e b.0 n b.1 (sym h ∙ b.2) in
          omega (arith, same.1, b.3);
    }

pub front_none : (text : List ℕ) → front text ≡ None → (n : ℕ) (e : Element) → IsElem (take n text) e → ⊥
front_none text h n e is =
    let r = reach (take n text) e (drop n text) is in
    let found : front text ≡ Some (r.found, r.len) = ap front (sym (take-append-drop n text)) ∙ r.read in
    cc

no_digit : (rest : List ℕ) → EndsElement rest → NoDigit rest
no_digit [] h = (refl, refl)
no_digit (c ∷ rest) (inl e) = subst (λ c. NoDigit (c ∷ rest)) (sym e) (refl, refl)
no_digit (c ∷ rest) (inr (inl e)) = subst (λ c. NoDigit (c ∷ rest)) (sym e) (refl, refl)
no_digit (c ∷ rest) (inr (inr e)) = subst (λ c. NoDigit (c ∷ rest)) (sym e) (refl, refl)

-- an element is read whole where nothing follows it that could prolong it
pub front_before : (text rest : List ℕ) (e : Element) → IsElem text e → EndsElement rest → front (text ++ rest) ≡ Some (e, length text)
front_before text rest e is ends =
    let r = reach text e rest is in
    let exact = r.exact (no_digit rest ends) in
    r.read ∙ ap (λ (d : Element). Some (d, r.len)) exact.0 ∙ ap (λ (n : ℕ). Some (e, n)) exact.1

pub front_whole : (text : List ℕ) (e : Element) → IsElem text e → front text ≡ Some (e, length text)
front_whole text e is = ap front (sym (append-nil text)) ∙ front_before text [] e is tt

pub one_element : (text : List ℕ) (e d : Element) → IsElem text e → IsElem text d → e ≡ d
one_element text e d is also = (some_pair_parts e d (length text) (length text) (sym (front_whole text e is) ∙ front_whole text d also)).0

pub front_from : (text : List ℕ) (e : Element) (n : ℕ) → IsFront text e n → front text ≡ Some (e, n)
front_from text e n is =
    let b = begun text n e is.within is.spells in
    let other = front_is text b.0 b.1 b.2 in
    let most : b.1 ≤ n = is.longest b.1 b.0 other.within other.spells in
    let len : b.1 ≡ n = omega (arith, most, b.3) in
    let same : b.0 ≡ e = one_element (take n text) b.0 e (subst (λ m. IsElem (take m text) b.0) len other.spells) is.spells in
    b.2 ∙ ap (λ (d : Element). Some (d, b.1)) same ∙ ap (λ (m : ℕ). Some (e, m)) len

led_plain : (text : List ℕ) (n : ℕ) (rest : List ℕ) → IsLed text n rest → IsLed (hex n ++ colon ∷ rest) n rest
led_plain text n rest led = (hex n, hex_plain n (hex_parts led.0 n led.1).small, refl)

-- an element is spelled by its plain spelling
pub plain_is : (text : List ℕ) (e : Element) → IsElem text e → IsElem (plain_elem e) e
plain_is text Nil is = refl
plain_is text (Small t) is = (refl, is.1)
plain_is text (Atom bytes) is = (hex (length bytes) ++ colon ∷ bytes, refl, led_plain is.0 (length bytes) bytes is.2)
plain_is text (Pid t) is = (refl, is.1)
plain_is text (Port t) is = (inl refl, is.1)
plain_is text (Ref address) is = (hex address, refl, hex_plain address (hex_parts is.0 address is.2).small)

-- what a reader that answers as `front` does says of the text
pub found_is : (text : List ℕ) (result : Option (Elem × ℕ)) → option_map element_len result ≡ front text → IfSome result (λ found. IsFront text (element found.0) found.1)
found_is text None h = tt
found_is text (Some found) h = front_is text (element found.0) found.1 (sym h)

pub none_is : (text : List ℕ) (result : Option (Elem × ℕ)) → option_map element_len result ≡ front text → IfNone result ((n : ℕ) (e : Element) → IsElem (take n text) e → ⊥)
none_is text None h = front_none text (sym h)
none_is text (Some found) h = tt

pub front_none_from : (text : List ℕ) → ((n : ℕ) (e : Element) → IsElem (take n text) e → ⊥) → front text ≡ None
front_none_from text none = of (front text) refl
  where
    of : (o : Option (Element × ℕ)) → front text ≡ o → front text ≡ None
    of None e = e
    of (Some found) e = absurd (none found.1 found.0 (front_sound text found.0 found.1 e).1)
