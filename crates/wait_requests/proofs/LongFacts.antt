-- A line that is too long has no words of a reference.
use Rattle.std.proofs.Common.{◌≡◌, ◌⊎◌, inl, inr, ℕ, ◌+◌, ◌-◌, ◌<◌, ◌≤◌, ◌==◌, Bool, true, false, cond, List, [], ◌∷◌, length, take, Option, None, Some, refl, sym, ◌∙◌, ap, arith, length-append, if◌then◌else◌}
use Rattle.std.specs.Prelude.{◌↔◌, nat_eq}
use Rattle.std.specs.List.{ends_with}
use Rattle.std.specs.Option.{option_and_then, option_map}
use Rattle.std.proofs.lemmas.Bool.{cases_lt, eqb-true}
use Rattle.std.proofs.lemmas.List.{take_all, length-take-le}
use Rattle.binary_payloads.specs.Payload.{chars_of, IsPayload}
use Rattle.binary_payloads.specs.ReadingPayloads.{payload_bytes}
use Rattle.binary_payloads.specs.declared.enc.Enc.{Enc}
use Rattle.binary_payloads.specs.declared.enc.Enc.TheVariants.{Hex, Base64}
use Rattle.dump_io.specs.Laws.HexNumbers.{hex_number-short}
use Rattle.dump_io.specs.Lines.{cr, lf, text_of}
use Rattle.etf_terms.specs.References.{reference_in}
use Rattle.term_forms.specs.Words.{led_of, colon, IsLed}
use Rattle.wait_requests.specs.Inner.Hearing.{is_slot, text_words}
use Rattle.wait_requests.specs.Inner.Reading.{external_form, external_line, payload_words}
use Rattle.wait_requests.proofs.ExternalFacts.{line-found, line-large, line-none, line-other, AreForms}
use Rattle.wait_requests.proofs.PayloadFacts.{ArePayloads}

-- what is computed of texts is the number that leads them
abbrev pub AreLed : Type 0
AreLed = (text : List ℕ) (n : ℕ) (rest : List ℕ) → (led_of text ≡ Some (n, rest)) ↔ IsLed text n rest

-- a payload has as many characters as its bytes need
abbrev pub AreSized : Enc → Type 0
AreSized enc = (chars bytes : List ℕ) → IsPayload enc chars bytes → length chars ≡ chars_of enc (length bytes)

-- ---- the parts of a line

led-length : AreLed → (text : List ℕ) (n : ℕ) (rest : List ℕ) → led_of text ≡ Some (n, rest) → length text ≤ 17 + length rest
led-length leds text n rest is =
    let led = (leds text n rest).0 is in
    let short = hex_number-short led.0 n led.1 in
    let parts : length text ≡ length led.0 + length (colon ∷ rest) = ap length led.2 ∙ length-append led.0 (colon ∷ rest) in
    omega (arith, short, parts)

form-length : AreLed → (text : List ℕ) (size : ℕ) (chars : List ℕ) → external_form text ≡ Some (size, chars) → length text ≤ 18 + length chars
form-length leds [] size chars is = cc
form-length leds (c ∷ text) size chars is = by (c == 69) is
  where
    by : (b : Bool) → option_and_then led_of (cond b (Some text) None) ≡ Some (size, chars) → length (c ∷ text) ≤ 18 + length chars
    by true at = let few = led-length leds text size chars at in omega (arith, few)
    by false at = cc

abbrev chars-length : Option (ℕ × ℕ × List ℕ) → ℕ
chars-length None = 0
chars-length (Some (a, n, cs)) = length cs

line-length : AreLed → (text : List ℕ) (address size : ℕ) (chars : List ℕ) → external_line text ≡ Some (address, size, chars) → length text ≤ 35 + length chars
line-length leds text address size chars is = by (led_of text) refl is
  where
    inner : (a : ℕ) (form : List ℕ) → length text ≤ 17 + length form → (o : Option (ℕ × List ℕ)) → external_form form ≡ o
        → option_map {U = ℕ × ℕ × List ℕ} (λ (sized : ℕ × List ℕ). (a, sized.0, sized.1)) o ≡ Some (address, size, chars) → length text ≤ 35 + length chars
    inner a form few None at same = cc
    inner a form few (Some (n, cs)) at same =
        let more = form-length leds form n cs at in
        let long : length cs ≡ length chars = ap chars-length same in
        omega (arith, few, more, long)

    by : (led : Option (ℕ × List ℕ)) → led_of text ≡ led
        → option_and_then (λ (led : ℕ × List ℕ). option_map {U = ℕ × ℕ × List ℕ} (λ (sized : ℕ × List ℕ). (led.0, sized.0, sized.1)) (external_form led.1)) led ≡ Some (address, size, chars) → length text ≤ 35 + length chars
    by None at same = cc
    by (Some (a, form)) at same = inner a form (led-length leds text a form at) (external_form form) refl same

few-chars : (enc : Enc) (n : ℕ) → n ≤ 2048 → chars_of enc n ≤ 4096
few-chars Hex n few = omega (arith, few)
few-chars Base64 n few = omega (arith, few)

module _ (enc : Enc) (forms : AreForms enc) (leds : AreLed) (payloads : ArePayloads enc) (sizes : AreSized enc) where
  words-length : (size : ℕ) (chars words : List ℕ) → size ≤ 2048 → payload_words enc size chars ≡ Some words → length chars ≤ 4096
  words-length size chars words small is = by (payload_bytes enc chars) refl is
    where
      by : (o : Option (List ℕ)) → payload_bytes enc chars ≡ o → option_and_then (λ bytes. cond (length bytes == size) (reference_in bytes) None) o ≡ Some words → length chars ≤ 4096
      by None at same = cc
      by (Some bytes) at same = sized (length bytes == size) refl same
        where
          sized : (b : Bool) → (length bytes == size) ≡ b → cond b (reference_in bytes) None ≡ Some words → length chars ≤ 4096
          sized true e had =
              let count : length bytes ≡ size = eqb-true (length bytes) size e in
              let many : length chars ≡ chars_of enc size = sizes chars bytes ((payloads chars bytes).0 at) ∙ ap (chars_of enc) count in
              let few = few-chars enc size small in
              omega (arith, many, few)
          sized false e had = cc

  -- ---- a long text, and a long line

  module _ (slots : List (ℕ × ℕ)) where
    long-none : (text : List ℕ) → 4132 ≤ length text → text_words enc slots text ≡ None
    long-none text long = by (external_line text) refl
      where
        by : (o : Option (ℕ × ℕ × List ℕ)) → external_line text ≡ o → text_words enc slots text ≡ None
        by None at = line-none enc forms slots text at
        by (Some (address, size, chars)) at = slot (is_slot slots address) refl (cases_lt 2048 size) (payload_words enc size chars) refl
          where
            slot : (b : Bool) → is_slot slots address ≡ b → (2048 < size) ⊎ (size ≤ 2048) → (words : Option (List ℕ)) → payload_words enc size chars ≡ words → text_words enc slots text ≡ None
            slot false other size_is words are = line-other enc forms slots text address size chars at other
            slot true found (inl large) words are = line-large enc forms slots text address size chars at large
            slot true found (inr small) None are = line-found enc forms slots text address size chars at small found ∙ are
            slot true found (inr small) (Some words) are =
                let few = words-length size chars words small are in
                let most = line-length leds text address size chars at in
                absurd (omega (arith, few, most, long))

    text-length : (raw : List ℕ) → length raw ≤ length (text_of raw) + 2
    text-length raw = by (ends_with nat_eq raw (cr ∷ lf ∷ [])) (ends_with nat_eq raw (lf ∷ []))
      where
        by : (a b : Bool) → length raw ≤ length (if a then take (length raw - 2) raw else (if b then take (length raw - 1) raw else raw)) + 2
        by true b = let size = length-take-le (length raw - 2) raw (omega arith) in omega (arith, size)
        by false true = let size = length-take-le (length raw - 1) raw (omega arith) in omega (arith, size)
        by false false = omega arith

    -- the first bytes of a line stand for it
    pub cut-same : (raw : List ℕ) → text_words enc slots (text_of (take 4134 raw)) ≡ text_words enc slots (text_of raw)
    cut-same raw = by (cases_lt 4134 (length raw))
      where
        by : (4134 < length raw) ⊎ (length raw ≤ 4134) → text_words enc slots (text_of (take 4134 raw)) ≡ text_words enc slots (text_of raw)
        by (inr few) = ap (λ l. text_words enc slots (text_of l)) (take_all 4134 raw few)
        by (inl many) =
            let size : length (take 4134 raw) ≡ 4134 = length-take-le 4134 raw (omega (arith, many)) in
            let front = text-length (take 4134 raw) in
            let whole = text-length raw in
            long-none (text_of (take 4134 raw)) (omega (arith, size, front)) ∙ sym (long-none (text_of raw) (omega (arith, many, whole)))
