-- The words of the reference that a line is, from the parts of an external term.
use Rattle.std.proofs.Common.{arith, ◌≡◌, ℕ, ◌<◌, ◌≤◌, ◌==◌, Bool, true, false, cond, List, [], ◌∷◌, length, Option, None, Some, refl, sym, ◌∙◌, ap}
use Rattle.std.specs.Prelude.{nat_le}
use Rattle.std.specs.Option.{option_and_then, option_map, option_map_or}
use Rattle.std.proofs.lemmas.Bool.{eq-eqb, eqb-true, false≢true}
use Rattle.binary_payloads.specs.ReadingPayloads.{payload_bytes}
use Rattle.binary_payloads.specs.declared.enc.Enc.{Enc}
use Rattle.etf_terms.specs.References.{reference_in}
use Rattle.std.specs.Prelude.{◌↔◌}
use Rattle.term_forms.specs.Forms.{HeapForm, Cons, Tuple, Float, Long, Pid, Port, Ext, HeapBin, RefBin, SubBin, Flat, Hash, Node, IsForm}
use Rattle.term_forms.specs.ReadingForms.{form_of, payload_of, payload_test}
use Rattle.term_forms.specs.Words.{led_of}
use Rattle.wait_requests.specs.Held.{words_of}
use Rattle.wait_requests.specs.Inner.Hearing.{is_slot, led_words, text_words}
use Rattle.wait_requests.specs.Inner.Reading.{external_form, external_line, external_words, payload_words}

-- what is computed of texts is the form that they spell
abbrev pub AreForms : Enc → Type 0
AreForms enc = (text : List ℕ) (f : HeapForm) → (form_of enc text ≡ Some f) ↔ IsForm enc text f

module _ (enc : Enc) (forms : AreForms enc) where
  -- ---- other forms have no words

  plain : (c : ℕ) (text : List ℕ) (f : HeapForm) → (c == 69) ≡ false → IsForm enc (c ∷ text) f → words_of enc (Some f) ≡ None
  plain c text (Ext size chars) other spelled =
      let is : c ∷ text ≡ 69 ∷ spelled.0 = spelled.1 in
      let same : c ≡ 69 = cc in
      absurd (false≢true (sym other ∙ eq-eqb c 69 same))
  plain c text (Cons head tail) other spelled = refl
  plain c text (Tuple elements) other spelled = refl
  plain c text (Float bytes) other spelled = refl
  plain c text (Long number) other spelled = refl
  plain c text (Pid pid) other spelled = refl
  plain c text (Port port) other spelled = refl
  plain c text (HeapBin size chars) other spelled = refl
  plain c text (RefBin address offset size) other spelled = refl
  plain c text (SubBin address offset size) other spelled = refl
  plain c text (Flat keys values) other spelled = refl
  plain c text (Hash size children) other spelled = refl
  plain c text (Node children) other spelled = refl

  no-other : (c : ℕ) (text : List ℕ) → (c == 69) ≡ false → words_of enc (form_of enc (c ∷ text)) ≡ None
  no-other c text other = by (form_of enc (c ∷ text)) refl
    where
      by : (o : Option HeapForm) → form_of enc (c ∷ text) ≡ o → words_of enc (form_of enc (c ∷ text)) ≡ None
      by None is = ap (words_of enc) is
      by (Some f) is = ap (words_of enc) is ∙ plain c text f other ((forms (c ∷ text) f).0 is)

  -- ---- an external term

  abbrev nothing : Option (List ℕ)
  nothing = None

  short : (b : Bool) → nothing ≡ cond b nothing nothing
  short true = refl
  short false = refl

  abbrev spelled : Option (ℕ × List ℕ) → Option HeapForm
  spelled led = option_and_then (λ (ext : ℕ × List ℕ). Some (Ext ext.0 ext.1)) (option_and_then (λ (led : ℕ × List ℕ). cond (payload_test enc led.0 led.1) (Some led) None) led)

  sized : (size : ℕ) (chars : List ℕ) (o : Option (List ℕ)) → payload_bytes enc chars ≡ o
      → words_of enc (option_and_then (λ (ext : ℕ × List ℕ). Some (Ext ext.0 ext.1)) (cond (option_map_or (λ bytes. length bytes == size) o false) (Some (size, chars)) None))
      ≡ cond (nat_le size 2048) (option_and_then (λ bytes. cond (length bytes == size) (reference_in bytes) None) o) None
  sized size chars None is = short (nat_le size 2048)
  sized size chars (Some bytes) is = elim (length bytes == size) as (λ b.
      words_of enc (option_and_then (λ (ext : ℕ × List ℕ). Some (Ext ext.0 ext.1)) (cond b (Some (size, chars)) None)) ≡ cond (nat_le size 2048) (cond b (reference_in bytes) None) None) [
        | true ↦ ap (λ o. cond (nat_le size 2048) (option_and_then reference_in o) None) is
        | false ↦ short (nat_le size 2048)
      ]

  led-words : (led : Option (ℕ × List ℕ)) → words_of enc (spelled led) ≡ option_and_then (external_words enc) led
  unfolding payload_test
  led-words None = refl
  led-words (Some (size, chars)) =
      sized size chars (payload_bytes enc chars) refl

  external-spelled : (text : List ℕ) → words_of enc (form_of enc (69 ∷ text)) ≡ option_and_then (external_words enc) (led_of text)
  unfolding form_of payload_of
  external-spelled text = led-words (led_of text)

  form-words : (text : List ℕ) → words_of enc (form_of enc text) ≡ option_and_then (external_words enc) (external_form text)
  unfolding form_of
  form-words [] = refl
  form-words (c ∷ text) = by (c == 69) refl
    where
      by : (b : Bool) → (c == 69) ≡ b → words_of enc (form_of enc (c ∷ text)) ≡ option_and_then (external_words enc) (option_and_then led_of (cond b (Some text) None))
      by true e = ap (λ d. words_of enc (form_of enc (d ∷ text))) (eqb-true c 69 e) ∙ external-spelled text
      by false e = no-other c text e

  -- ---- a line

  module _ (slots : List (ℕ × ℕ)) where
    abbrev looked : ℕ × ℕ × List ℕ → Option (List ℕ)
    looked line = cond (is_slot slots line.0) (external_words enc (line.1, line.2)) None

    slot-words : (address : ℕ) (b : Bool) (o : Option (ℕ × List ℕ)) (words : Option (List ℕ)) → is_slot slots address ≡ b → words ≡ option_and_then (external_words enc) o
        → cond b words None ≡ option_and_then looked (option_map {U = ℕ × ℕ × List ℕ} (λ (sized : ℕ × List ℕ). (address, sized.0, sized.1)) o)
    slot-words address true None words at is = is
    slot-words address false None words at is = refl
    slot-words address true (Some ext) words at is = is ∙ sym (ap (λ b. cond b (external_words enc ext) None) at)
    slot-words address false (Some ext) words at is = sym (ap (λ b. cond b (external_words enc ext) None) at)

    pub text-words : (text : List ℕ) → text_words enc slots text ≡ option_and_then looked (external_line text)
    text-words text = by (led_of text)
      where
        by : (led : Option (ℕ × List ℕ)) → option_and_then (led_words enc slots) led
            ≡ option_and_then looked (option_and_then (λ (led : ℕ × List ℕ). option_map {U = ℕ × ℕ × List ℕ} (λ (sized : ℕ × List ℕ). (led.0, sized.0, sized.1)) (external_form led.1)) led)
        by None = refl
        by (Some (address, form)) = slot-words address (is_slot slots address) (external_form form) (words_of enc (form_of enc form)) refl (form-words form)

    module _ (text : List ℕ) where
      pub line-none : external_line text ≡ None → text_words enc slots text ≡ None
      line-none none = text-words text ∙ ap (option_and_then looked) none

      module _ (address size : ℕ) (chars : List ℕ) (is : external_line text ≡ Some (address, size, chars)) where
        here : text_words enc slots text ≡ looked (address, size, chars)
        here = text-words text ∙ ap (option_and_then looked) is

        pub line-large : 2048 < size → text_words enc slots text ≡ None
        line-large large =
            here ∙ ap (λ b. cond (is_slot slots address) (cond b (payload_words enc size chars) None) None) (not-le size 2048 large) ∙ sym (short (is_slot slots address))
          where
            not-le : (m n : ℕ) → n < m → nat_le m n ≡ false
            not-le m n below = grind arith

        pub line-other : is_slot slots address ≡ false → text_words enc slots text ≡ None
        line-other none = here ∙ ap (λ b. cond b (external_words enc (size, chars)) None) none

        pub line-found : size ≤ 2048 → is_slot slots address ≡ true → text_words enc slots text ≡ payload_words enc size chars
        line-found small slot =
            here ∙ ap (λ b. cond b (external_words enc (size, chars)) None) slot ∙ ap (λ b. cond b (payload_words enc size chars) None) (le size 2048 small)
          where
            le : (m n : ℕ) → m ≤ n → nat_le m n ≡ true
            le m n within = grind arith
