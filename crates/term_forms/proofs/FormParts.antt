-- The parts of a form, each with what it is read as.
use Rattle.std.proofs.Common.{◌≡◌, ℕ, zero, suc, ◌==◌, true, List, [], ◌∷◌, ◌++◌, length, take, drop, Some, None, refl, sym, ◌∙◌, ap, subst, arith, if◌then◌else◌, inl, inr}
use Rattle.std.proofs.lemmas.Bool.{eqb-true, eq-eqb}
use Rattle.std.proofs.lemmas.List.{take_all, append-nil, take-append-drop, length-take-le}
use Rattle.std.proofs.lemmas.Option.{same_Some, some_pair_parts}
use Rattle.std.proofs.lemmas.List.{drop_at}
use Rattle.dump_io.specs.Numbers.{hex_number}
use Rattle.binary_payloads.specs.declared.enc.Enc.{Enc}
use Rattle.term_forms.specs.Words.{comma, IsBracketed, IsLed, led_of}
use Rattle.binary_payloads.specs.Payload.{IsPayloadOf}
use Rattle.term_forms.specs.Reading.{front, whole_of, ◌>>=◌, bracketed_len}
use Rattle.term_forms.specs.ReadingForms.{behind, until_of, joined_of, counted_of, bracketed_of, payload_of, range_of, payload_test}
use Rattle.term_forms.specs.Elements.{Element, IsElem, EndsElement}
use Rattle.term_forms.specs.Joined.{IsJoined}
use Rattle.term_forms.specs.Forms.{IsRange}
use Rattle.term_forms.proofs.Steps.{bind_some, bind_from, guard_some, guard_from, some_pair}
use Rattle.term_forms.proofs.Hexes.{led_full, led_sound}
use Rattle.term_forms.proofs.WordTexts.{bracketed_full, bracketed_sound}
use Rattle.term_forms.proofs.FrontsTaken.{front_sound}
use Rattle.term_forms.proofs.OfElements.{front_before, front_whole}
use Rattle.term_forms.proofs.PayloadTests.{PayloadIsRead, payload_test-decides}

same_length : (n : ℕ) → (n == n) ≡ true
same_length n = eq-eqb n n refl

-- ---- an element that is the whole text

pub whole_full : (text : List ℕ) (e : Element) → IsElem text e → whole_of text ≡ Some e
unfolding whole_of
whole_full text e is =
    bind_from (front text) (λ found. if found.1 == length text then Some found.0 else None) (e, length text) e (front_whole text e is)
    (guard_from (length text == length text) (Some e) (same_length (length text)))

pub whole_sound : (text : List ℕ) (e : Element) → whole_of text ≡ Some e → IsElem text e
unfolding whole_of
whole_sound text e h =
    let step = bind_some (front text) (λ found. if found.1 == length text then Some found.0 else None) e h in
    let guard = guard_some (step.0.1 == length text) step.0.0 e step.2 in
    let len : step.0.1 ≡ length text = eqb-true step.0.1 (length text) guard.0 in
    let is = front_sound text step.0.0 step.0.1 step.1 in
    let whole : take step.0.1 text ≡ text = take_all step.0.1 text (omega (arith, len)) in
    subst (λ t. IsElem t e) whole (subst (λ e. IsElem (take step.0.1 text) e) guard.1 is.1)

-- ---- an element and the byte behind it

behind_from : (stop : ℕ) (rest : List ℕ) → behind stop (stop ∷ rest) ≡ Some rest
unfolding behind
behind_from stop rest = guard_from (stop == stop) (Some rest) (same_length stop)

behind_sound : (stop : ℕ) (text rest : List ℕ) → behind stop text ≡ Some rest → text ≡ stop ∷ rest
unfolding behind
behind_sound stop [] rest h = absurd (let e : None ≡ Some rest = h in cc)
behind_sound stop (c ∷ text) rest h =
    let guard = guard_some (c == stop) text rest h in
    ap (λ c. c ∷ text) (eqb-true c stop guard.0) ∙ ap (λ t. stop ∷ t) guard.1

pub until_full : (stop : ℕ) (text first rest : List ℕ) (e : Element) → EndsElement (stop ∷ rest) → text ≡ first ++ stop ∷ rest → IsElem first e → until_of stop text ≡ Some (e, rest)
unfolding until_of
until_full stop text first rest e ends split is =
    let whole = first ++ stop ∷ rest in
    ap (until_of stop) split
    ∙ bind_from (front (first ++ stop ∷ rest)) (λ found. behind stop (drop found.1 (first ++ stop ∷ rest)) >>= λ rest. Some (found.0, rest)) (e, length first) (e, rest)
    (front_before first (stop ∷ rest) e is ends)
    (bind_from (behind stop (drop (length first) (first ++ stop ∷ rest))) (λ rest. Some (e, rest)) rest (e, rest)
    (ap (behind stop) (drop_at first (stop ∷ rest) (length first) refl) ∙ behind_from stop rest) refl)

pub until_sound : (stop : ℕ) (text : List ℕ) (e : Element) (rest : List ℕ) → until_of stop text ≡ Some (e, rest)
    → (first : List ℕ) × (text ≡ first ++ stop ∷ rest) × IsElem first e × (front text ≡ Some (e, length first))
unfolding until_of
until_sound stop text e rest h =
    let step = bind_some (front text) (λ found. behind stop (drop found.1 text) >>= λ rest. Some (found.0, rest)) (e, rest) h in
    let next = bind_some (behind stop (drop step.0.1 text)) (λ rest. Some (step.0.0, rest)) (e, rest) step.2 in
    let same = some_pair_parts step.0.0 e next.0 rest next.2 in
    let is = front_sound text step.0.0 step.0.1 step.1 in (
      take step.0.1 text,
      sym (take-append-drop step.0.1 text) ∙ ap (λ t. take step.0.1 text ++ t) (behind_sound stop (drop step.0.1 text) next.0 next.1)
          ∙ ap (λ rest. take step.0.1 text ++ stop ∷ rest) same.1,
      subst (λ e. IsElem (take step.0.1 text) e) same.0 is.1,
      step.1 ∙ some_pair step.0.0 e step.0.1 (length (take step.0.1 text)) same.0 (sym (length-take-le step.0.1 text is.0)),
    )

-- ---- elements joined by commas

pub joined_full : (text : List ℕ) (es : List Element) → IsJoined text es → joined_of (length es) text ≡ Some es
unfolding joined_of
joined_full text [] is = ap (joined_of 0) is
joined_full text (e ∷ []) is = bind_from (whole_of text) (λ e. Some (e ∷ [])) e (e ∷ []) (whole_full text e is) refl
joined_full text (e ∷ d ∷ es) is =
    bind_from (until_of comma text) (λ found. joined_of (suc (length es)) found.1 >>= λ es. Some (found.0 ∷ es)) (e, is.1) (e ∷ d ∷ es)
    (until_full comma text is.0 is.1 e (inr (inl refl)) is.2 is.3)
    (bind_from (joined_of (suc (length es)) is.1) (λ es. Some (e ∷ es)) (d ∷ es) (e ∷ d ∷ es) (joined_full is.1 (d ∷ es) is.4) refl)

joined_cons : (text first rest : List ℕ) (e : Element) (others : List Element) (n : ℕ) → length others ≡ suc n → text ≡ first ++ comma ∷ rest → IsElem first e → IsJoined rest others
    → IsJoined text (e ∷ others)
joined_cons text first rest e [] n size split is more = absurd (omega (arith, size))
joined_cons text first rest e (d ∷ es) n size split is more = (first, rest, split, is, more)

pub joined_sound : (n : ℕ) (text : List ℕ) (es : List Element) → joined_of n text ≡ Some es → (length es ≡ n) × IsJoined text es
unfolding joined_of
joined_sound zero [] es h = subst (λ es. (length es ≡ 0) × IsJoined [] es) (same_Some [] es h) (refl, refl)
joined_sound zero (c ∷ text) es h = absurd (let e : None ≡ Some es = h in cc)
joined_sound (suc zero) text es h =
    let step = bind_some (whole_of text) (λ e. Some (e ∷ [])) es h in
    subst (λ es. (length es ≡ 1) × IsJoined text es) (same_Some (step.0 ∷ []) es step.2) (refl, whole_sound text step.0 step.1)
joined_sound (suc (suc n)) text es h =
    let step = bind_some (until_of comma text) (λ found. joined_of (suc n) found.1 >>= λ es. Some (found.0 ∷ es)) es h in
    let next = bind_some (joined_of (suc n) step.0.1) (λ es. Some (step.0.0 ∷ es)) es step.2 in
    let first = until_sound comma text step.0.0 step.0.1 step.1 in
    let others = joined_sound (suc n) step.0.1 next.0 next.1 in
    subst (λ es. (length es ≡ suc (suc n)) × IsJoined text es) (same_Some (step.0.0 ∷ next.0) es next.2)
    (ap suc others.0, joined_cons text first.0 step.0.1 step.0.0 next.0 n others.0 first.1 first.2 others.1)

-- ---- a number and so many elements

pub counted_full : (text rest : List ℕ) (es : List Element) → IsLed text (length es) rest → IsJoined rest es → counted_of text ≡ Some es
unfolding counted_of
counted_full text rest es led is = bind_from (led_of text) (λ led. joined_of led.0 led.1) (length es, rest) es (led_full text (length es) rest led) (joined_full rest es is)

pub counted_sound : (text : List ℕ) (es : List Element) → counted_of text ≡ Some es → (rest : List ℕ) × IsLed text (length es) rest × IsJoined rest es
unfolding counted_of
counted_sound text es h =
    let step = bind_some (led_of text) (λ led. joined_of led.0 led.1) es h in
    let is = joined_sound step.0.0 step.0.1 es step.2 in
    (step.0.1, subst (λ n. IsLed text n step.0.1) (sym is.0) (led_sound text step.0.0 step.0.1 step.1), is.1)

-- ---- a bracketed number that is the whole text

pub bracketed_whole : (text : List ℕ) → IsBracketed text → bracketed_of text ≡ Some text
unfolding bracketed_of
bracketed_whole text is =
    bind_from (bracketed_len text) (λ n. if n == length text then Some text else None) (length text) text
    (ap bracketed_len (sym (append-nil text)) ∙ bracketed_full text [] is)
    (guard_from (length text == length text) (Some text) (same_length (length text)))

pub bracketed_is : (text port : List ℕ) → bracketed_of text ≡ Some port → (text ≡ port) × IsBracketed port
unfolding bracketed_of
bracketed_is text port h =
    let step = bind_some (bracketed_len text) (λ n. if n == length text then Some text else None) port h in
    let guard = guard_some (step.0 == length text) text port step.2 in
    let len : step.0 ≡ length text = eqb-true step.0 (length text) guard.0 in
    let is = bracketed_sound text step.0 step.1 in
    let whole : take step.0 text ≡ text = take_all step.0 text (omega (arith, len)) in
    (guard.1, subst IsBracketed (whole ∙ guard.1) is.1)

-- ---- a length and so many payload characters

pub payload_full : (enc : Enc) → PayloadIsRead enc → (text : List ℕ) (size : ℕ) (chars : List ℕ) → IsLed text size chars → IsPayloadOf enc chars size → payload_of enc text ≡ Some (size, chars)
unfolding payload_of
payload_full enc law text size chars led is =
    bind_from (led_of text) (λ led. if payload_test enc led.0 led.1 then Some led else None) (size, chars) (size, chars) (led_full text size chars led)
    (guard_from (payload_test enc size chars) (Some (size, chars)) ((payload_test-decides enc law size chars).1 is))

pub payload_sound : (enc : Enc) → PayloadIsRead enc → (text : List ℕ) (found : ℕ × List ℕ) → payload_of enc text ≡ Some found → IsLed text found.0 found.1 × IsPayloadOf enc found.1 found.0
unfolding payload_of
payload_sound enc law text found h =
    let step = bind_some (led_of text) (λ led. if payload_test enc led.0 led.1 then Some led else None) found h in
    let guard = guard_some (payload_test enc step.0.0 step.0.1) step.0 found step.2 in
    subst (λ found. IsLed text found.0 found.1 × IsPayloadOf enc found.1 found.0) guard.1
    (led_sound text step.0.0 step.0.1 step.1, (payload_test-decides enc law step.0.0 step.0.1).0 guard.0)

-- ---- an address, an offset and a size

pub range_full : (text : List ℕ) (address offset size : ℕ) → IsRange text address offset size → range_of text ≡ Some (address, offset, size)
unfolding range_of
range_full text address offset size is =
    bind_from (led_of text) (λ address. led_of address.1 >>= λ offset. hex_number offset.1 >>= λ size. Some (address.0, offset.0, size)) (address, is.0) (address, offset, size)
    (led_full text address is.0 is.2)
    (bind_from (led_of is.0) (λ offset. hex_number offset.1 >>= λ size. Some (address, offset.0, size)) (offset, is.1) (address, offset, size)
    (led_full is.0 offset is.1 is.3)
    (bind_from (hex_number is.1) (λ size. Some (address, offset, size)) size (address, offset, size) is.4 refl))

pub range_sound : (text : List ℕ) (range : ℕ × ℕ × ℕ) → range_of text ≡ Some range → IsRange text range.0 range.1 range.2
unfolding range_of
range_sound text range h =
    let first = bind_some (led_of text) (λ address. led_of address.1 >>= λ offset. hex_number offset.1 >>= λ size. Some (address.0, offset.0, size)) range h in
    let second = bind_some (led_of first.0.1) (λ offset. hex_number offset.1 >>= λ size. Some (first.0.0, offset.0, size)) range first.2 in
    let third = bind_some (hex_number second.0.1) (λ size. Some (first.0.0, second.0.0, size)) range second.2 in
    subst (λ range. IsRange text range.0 range.1 range.2) (same_Some (first.0.0, second.0.0, third.0) range third.2)
    (first.0.1, second.0.1, led_sound text first.0.0 first.0.1 first.1, led_sound first.0.1 second.0.0 second.0.1 second.1, third.1)
