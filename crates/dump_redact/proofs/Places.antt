-- Where a payload stands in a line's text depends on what stands before it alone.
use Rattle.std.proofs.Common.{◌≡◌, ℕ, List, [], ◌∷◌, ◌++◌, drop, codes, Option, Some, None, ◌⊎◌, inl, inr, ◌↔◌, option_and_then, option_map, refl, sym, ◌∙◌, ap, subst, append_assoc, map, ◌-◌, Bool, true, false, length, ap₂, arith, length-append}
use Rattle.std.specs.List.{concat}
use Rattle.std.proofs.lemmas.Option.{some_pair_parts}
use Rattle.std.proofs.lemmas.Bool.{cond-false}
use Rattle.binary_payloads.specs.declared.enc.Enc.{Enc}
use Rattle.binary_payloads.specs.Payload.{IsPayloadOf}
use Rattle.term_forms.specs.Words.{colon, led_of, IsLed}
use Rattle.term_forms.specs.Forms.{HeapForm, Cons, Tuple, Float, Long, Pid, Port, Ext, HeapBin, RefBin, SubBin, Flat, Hash, Node, IsForm}
use Rattle.term_forms.specs.ReadingForms.{form_of}
use Rattle.dump_io.specs.Lines.{text_of, raw_lines, is_header}
use Rattle.dump_sections.specs.declared.version.Version.{Version}
use Rattle.dump_sections.specs.declared.version.Version.TheVariants.{V03, V04, V05}
use Rattle.binary_payloads.specs.declared.enc.Enc.TheVariants.{Hex, Base64}
use Rattle.heap_cells.specs.Loading.{enc_of}
use Rattle.dump_sections.specs.Index.{index_of}
use Rattle.dump_redact.specs.declared.parts.Part.{Part}
use Rattle.dump_redact.specs.declared.parts.Part.TheVariants.{Heap, Binary, Other}
use Rattle.dump_redact.specs.Redacted.{bin_chars, payload_in, blank, without, later, blank_from, redacted_line, redacted_lines, next_part, redacted_in, redacted, blanked_line}
use Rattle.dump_redact.specs.Payloads.{KeepsPayloads, KeepsBinaries}
use Rattle.dump_redact.proofs.Alike.{blanked, line-is_header, line-header, raw_lines-redacted, version-redacted}

-- the laws of term_forms that are taken from its functions
abbrev pub LedIsRead : Type 0
LedIsRead = (text : List ℕ) (n : ℕ) (rest : List ℕ) → (led_of text ≡ Some (n, rest)) ↔ IsLed text n rest

abbrev pub FormIsRead : Enc → Type 0
FormIsRead enc = (text : List ℕ) (f : HeapForm) → (form_of enc text ≡ Some f) ↔ IsForm enc text f

-- the text ends in the payload; with other characters in its place the text has no payload, or these
pub record IsPlaced (enc : Enc) (part : Part) (text chars : List ℕ) : Type 0 where
  pub front : List ℕ
  pub parts : text ≡ front ++ chars
  pub again : (others : List ℕ) → (payload_in enc part (front ++ others) ≡ None) ⊎ (payload_in enc part (front ++ others) ≡ Some others)

-- ---- a form that is a binary on the heap

-- a list or none
known : (o : Option (List ℕ)) → (o ≡ None) ⊎ ((chars : List ℕ) × (o ≡ Some chars))
known None = inl refl
known (Some chars) = inr (chars, refl)

bin-sound : (o : Option HeapForm) (chars : List ℕ) → bin_chars o ≡ Some chars → (size : ℕ) × (o ≡ Some (HeapBin size chars))
bin-sound None chars h = cc
bin-sound (Some (Cons head tail)) chars h = cc
bin-sound (Some (Tuple elements)) chars h = cc
bin-sound (Some (Float bytes)) chars h = cc
bin-sound (Some (Long number)) chars h = cc
bin-sound (Some (Pid pid)) chars h = cc
bin-sound (Some (Port port)) chars h = cc
bin-sound (Some (Ext size cs)) chars h = cc
bin-sound (Some (HeapBin size cs)) chars h = let e : cs ≡ chars = cc in (size, ap (λ l. Some (HeapBin size l)) e)
bin-sound (Some (RefBin address offset size)) chars h = cc
bin-sound (Some (SubBin address offset size)) chars h = cc
bin-sound (Some (Flat keys values)) chars h = cc
bin-sound (Some (Hash size children)) chars h = cc
bin-sound (Some (Node children)) chars h = cc

-- a text that spells one has the characters of its payload
pub bin-chars : (enc : Enc) → FormIsRead enc → (spelled chars : List ℕ) (size : ℕ) → IsForm enc spelled (HeapBin size chars)
    → Some chars ≡ bin_chars (form_of enc spelled)
bin-chars enc forms spelled chars size form = sym (ap bin_chars ((forms spelled (HeapBin size chars)).1 form))

-- a text in which no payload follows the two letters and a number spells none
pub no-bin-chars : (enc : Enc) → FormIsRead enc → (spelled led : List ℕ) → spelled ≡ codes "Yh" ++ led
    → ((size : ℕ) (chars : List ℕ) → IsLed led size chars → IsPayloadOf enc chars size → ⊥) → None ≡ bin_chars (form_of enc spelled)
no-bin-chars enc forms spelled led begins none = by (known (bin_chars (form_of enc spelled)))
  where
    by : (bin_chars (form_of enc spelled) ≡ None) ⊎ ((chars : List ℕ) × (bin_chars (form_of enc spelled) ≡ Some chars)) → None ≡ bin_chars (form_of enc spelled)
    by (inl is) = sym is
    by (inr (chars, is)) =
        let bin = bin-sound (form_of enc spelled) chars is in
        let form = (forms spelled (HeapBin bin.0 chars)).0 bin.1 in
        let same : form.0 ≡ led = ap (drop 2) (sym form.1 ∙ begins) in
        absurd (none bin.0 chars (subst (λ l. IsLed l bin.0 chars) same form.2) form.3)

-- a number and its payload are the only ones
pub only-payload : LedIsRead → (enc : Enc) (led chars : List ℕ) (size : ℕ) → IsLed led size chars → (IsPayloadOf enc chars size → ⊥)
    → (other : ℕ) (others : List ℕ) → IsLed led other others → IsPayloadOf enc others other → ⊥
only-payload law enc led chars size is none other others is-other payload =
    let parts = some_pair_parts other size others chars (sym ((law led other others).1 is-other) ∙ (law led size chars).1 is) in
    none (subst (λ l. IsPayloadOf enc l size) parts.1 (subst (λ n. IsPayloadOf enc others n) parts.0 payload))

-- the text of such a form begins with its two letters
bin-marked : (enc : Enc) → FormIsRead enc → (spelled chars : List ℕ) → bin_chars (form_of enc spelled) ≡ Some chars
    → (led : List ℕ) × (spelled ≡ codes "Yh" ++ led)
bin-marked enc forms spelled chars is =
    let bin = bin-sound (form_of enc spelled) chars is in
    let form = (forms spelled (HeapBin bin.0 chars)).0 bin.1 in
    (form.0, form.1)

-- the text of a line with a payload has those letters behind a colon
marked-by : LedIsRead → (enc : Enc) → FormIsRead enc → (text chars : List ℕ) (o : Option (ℕ × List ℕ)) → led_of text ≡ o
    → option_and_then (λ led. bin_chars (form_of enc led.1)) o ≡ Some chars → (front : List ℕ) × (more : List ℕ) × (text ≡ front ++ (codes ":Yh" ++ more))
marked-by law enc forms text chars None e h = cc
marked-by law enc forms text chars (Some (address, spelled)) e h =
    let led : IsLed text address spelled = (law text address spelled).0 e in
    let form = bin-marked enc forms spelled chars h in
    (led.0, form.0, led.2 ∙ ap (λ l. led.0 ++ colon ∷ l) form.1)

pub marked : LedIsRead → (enc : Enc) → FormIsRead enc → (text chars : List ℕ) → payload_in enc Heap text ≡ Some chars
    → (front : List ℕ) × (more : List ℕ) × (text ≡ front ++ (codes ":Yh" ++ more))
marked law enc forms text chars h = marked-by law enc forms text chars (led_of text) refl h

-- ---- the two places

binary-placed : LedIsRead → (enc : Enc) (text chars : List ℕ) (o : Option (ℕ × List ℕ)) → led_of text ≡ o → option_map (λ led. led.1) o ≡ Some chars
    → IsPlaced enc Binary text chars
binary-placed law enc text chars None e h = cc
binary-placed law enc text chars (Some (n, rest)) e h =
    let same : rest ≡ chars = cc in
    let led : IsLed text n rest = (law text n rest).0 e in
    let front = led.0 ++ colon ∷ [] in
    record {
      front = front;
      parts = led.2 ∙ ap (λ l. led.0 ++ colon ∷ l) same ∙ sym (append_assoc led.0 (colon ∷ []) chars);
      again = λ others. inr (ap (option_map (λ led. led.1)) ((law (front ++ others) n others).1 (led.0, led.1, append_assoc led.0 (colon ∷ []) others)));
    }

-- the form's text with other characters behind its second colon
bin-again : LedIsRead → (enc : Enc) → FormIsRead enc → (hex others spelled : List ℕ) (size : ℕ) → led_of (hex ++ colon ∷ others) ≡ Some (size, others)
    → spelled ≡ codes "Yh" ++ (hex ++ colon ∷ others)
    → (o : (bin_chars (form_of enc spelled) ≡ None) ⊎ ((chars : List ℕ) × (bin_chars (form_of enc spelled) ≡ Some chars)))
    → (bin_chars (form_of enc spelled) ≡ None) ⊎ (bin_chars (form_of enc spelled) ≡ Some others)
bin-again law enc forms hex others spelled size led e (inl none) = inl none
bin-again law enc forms hex others spelled size led e (inr found) =
    let bin = bin-sound (form_of enc spelled) found.0 found.1 in
    let form = (forms spelled (HeapBin bin.0 found.0)).0 bin.1 in
    let same : hex ++ colon ∷ others ≡ form.0 = ap (drop 2) (sym e ∙ form.1) in
    let read : led_of form.0 ≡ Some (bin.0, found.0) = (law form.0 bin.0 found.0).1 form.2 in
    let pair : (size ≡ bin.0) × (others ≡ found.0) = some_pair_parts size bin.0 others found.0 (sym led ∙ ap led_of same ∙ read) in
    inr (found.1 ∙ ap (λ l. Some l) (sym pair.1))

heap-placed : LedIsRead → (enc : Enc) → FormIsRead enc → (text chars : List ℕ) (o : Option (ℕ × List ℕ)) → led_of text ≡ o
    → option_and_then (λ led. bin_chars (form_of enc led.1)) o ≡ Some chars → IsPlaced enc Heap text chars
heap-placed law enc forms text chars None e h = cc
heap-placed law enc forms text chars (Some (address, spelled)) e h =
    let led : IsLed text address spelled = (law text address spelled).0 e in
    let bin = bin-sound (form_of enc spelled) chars h in
    let form = (forms spelled (HeapBin bin.0 chars)).0 bin.1 in
    let sized : IsLed form.0 bin.0 chars = form.2 in
    let hex = sized.0 in
    let head = codes "Yh" ++ (hex ++ colon ∷ []) in
    let front = led.0 ++ (colon ∷ head) in
    let inner : (l : List ℕ) → head ++ l ≡ codes "Yh" ++ (hex ++ colon ∷ l) = λ l. ap (λ m. codes "Yh" ++ m) (append_assoc hex (colon ∷ []) l) in
    let outer : (l : List ℕ) → front ++ l ≡ led.0 ++ colon ∷ (head ++ l) = λ l. append_assoc led.0 (colon ∷ head) l in
    record {
      front = front;
      parts = led.2 ∙ ap (λ l. led.0 ++ colon ∷ l) (form.1 ∙ ap (λ l. codes "Yh" ++ l) sized.2 ∙ sym (inner chars)) ∙ sym (outer chars);
      again = λ others.
          let read : led_of (front ++ others) ≡ Some (address, head ++ others) = (law (front ++ others) address (head ++ others)).1 (led.0, led.1, outer others) in
          let second : led_of (hex ++ colon ∷ others) ≡ Some (bin.0, others) = (law (hex ++ colon ∷ others) bin.0 others).1 (hex, sized.1, refl) in
          let whole : payload_in enc Heap (front ++ others) ≡ bin_chars (form_of enc (head ++ others)) = ap (option_and_then (λ led. bin_chars (form_of enc led.1))) read in
          let either = bin-again law enc forms hex others (head ++ others) bin.0 second (inner others) (known (bin_chars (form_of enc (head ++ others)))) in
          subst (λ p. (p ≡ None) ⊎ (p ≡ Some others)) (sym whole) either;
    }

pub placed : LedIsRead → (enc : Enc) → FormIsRead enc → (part : Part) (text chars : List ℕ) → payload_in enc part text ≡ Some chars → IsPlaced enc part text chars
placed law enc forms Heap text chars h = heap-placed law enc forms text chars (led_of text) refl h
placed law enc forms Binary text chars h = binary-placed law enc text chars (led_of text) refl h
placed law enc forms Other text chars h = cc

-- ---- a redacted heap line is read again

pub binaries : LedIsRead → (enc : Enc) → FormIsRead enc → KeepsPayloads enc → KeepsBinaries enc
binaries law enc forms keeps raw address size spelled chars e f =
    let text = text_of raw in
    let zeros = map (blank enc) chars in
    let led : IsLed text address spelled = (law text address spelled).0 e in
    let form = (forms spelled (HeapBin size chars)).0 f in
    let sized : IsLed form.0 size chars = form.2 in
    let hex = sized.0 in
    let head = codes "Yh" ++ (hex ++ colon ∷ []) in
    let front = led.0 ++ (colon ∷ head) in
    let inner : (l : List ℕ) → head ++ l ≡ codes "Yh" ++ (hex ++ colon ∷ l) = λ l. ap (λ m. codes "Yh" ++ m) (append_assoc hex (colon ∷ []) l) in
    let outer : (l : List ℕ) → front ++ l ≡ led.0 ++ colon ∷ (head ++ l) = λ l. append_assoc led.0 (colon ∷ head) l in
    let parts : text ≡ front ++ chars =
    led.2 ∙ ap (λ l. led.0 ++ colon ∷ l) (form.1 ∙ ap (λ l. codes "Yh" ++ l) sized.2 ∙ sym (inner chars)) ∙ sym (outer chars) in
    let found : payload_in enc Heap text ≡ Some chars = ap (option_and_then (λ led. bin_chars (form_of enc led.1))) e ∙ ap bin_chars f in
    let is : text_of (blanked_line enc Heap raw) ≡ front ++ zeros = ap (λ o. text_of (without enc raw o)) found ∙ (blanked enc raw front chars parts).text in (
      head ++ zeros,
      ap led_of is ∙ (law (front ++ zeros) address (head ++ zeros)).1 (led.0, led.1, outer zeros),
      (forms (head ++ zeros) (HeapBin size zeros)).1 (hex ++ colon ∷ zeros, inner zeros, (hex, sized.1, refl), keeps chars size form.3),
    )

-- ---- what is redacted stays when it is redacted again

-- ---- a line that is no header

ends : (enc : Enc) (part : Part) (new front zeros : List ℕ) → text_of new ≡ front ++ zeros → blank_from enc (length front) new ≡ new
    → (payload_in enc part (front ++ zeros) ≡ None) ⊎ (payload_in enc part (front ++ zeros) ≡ Some zeros)
    → blanked_line enc part new ≡ new
ends enc part new front zeros text again (inl none) = ap (without enc new) (ap (payload_in enc part) text ∙ none)
ends enc part new front zeros text again (inr some) =
    let place : length (text_of new) - length zeros ≡ length front = omega (arith, ap length text, length-append front zeros) in
    ap (without enc new) (ap (payload_in enc part) text ∙ some) ∙ ap (λ n. blank_from enc n new) place ∙ again

without-stays : LedIsRead → (enc : Enc) → FormIsRead enc → (part : Part) (raw : List ℕ) (found : Option (List ℕ)) → payload_in enc part (text_of raw) ≡ found
    → without enc (without enc raw found) (payload_in enc part (text_of (without enc raw found))) ≡ without enc raw found
without-stays law enc forms part raw None h = ap (without enc raw) h
without-stays law enc forms part raw (Some chars) h =
    let place = placed law enc forms part (text_of raw) chars h in
    let is = blanked enc raw place.front chars place.parts in
    ends enc part (without enc raw (Some chars)) place.front (map (blank enc) chars) is.text is.again (place.again (map (blank enc) chars))

line-by : LedIsRead → (enc : Enc) → FormIsRead enc → (part : Part) (raw : List ℕ) (b : Bool) → is_header raw ≡ b
    → redacted_line enc part (redacted_line enc part raw) ≡ redacted_line enc part raw
line-by law enc forms part raw true h = ap (redacted_line enc part) (line-header enc part raw h)
line-by law enc forms part raw false h =
    let new = redacted_line enc part raw in
    let plain = blanked_line enc part raw in
    let is : new ≡ plain = cond-false (is_header raw) raw plain h in
    cond-false (is_header new) new (blanked_line enc part new) (line-is_header enc part raw ∙ h)
    ∙ ap (λ l. blanked_line enc part l) is
    ∙ without-stays law enc forms part raw (payload_in enc part (text_of raw)) refl
    ∙ sym is

next-by : (enc : Enc) (part : Part) (raw : List ℕ) (b : Bool) → is_header raw ≡ b → next_part part (redacted_line enc part raw) ≡ next_part part raw
next-by enc part raw true h = ap (next_part part) (line-header enc part raw h)
next-by enc part raw false h =
    cond-false (is_header (redacted_line enc part raw)) _ (later part) (line-is_header enc part raw ∙ h) ∙ sym (cond-false (is_header raw) _ (later part) h)

-- ---- lines, and dumps

lines-stay : LedIsRead → (enc : Enc) → FormIsRead enc → (part : Part) (raws : List (List ℕ))
    → redacted_lines enc part (redacted_lines enc part raws) ≡ redacted_lines enc part raws
lines-stay law enc forms part [] = refl
lines-stay law enc forms part (raw ∷ raws) =
    let behind = redacted_lines enc (next_part part raw) raws in
    ap₂ (λ l ls. l ∷ ls) (line-by law enc forms part raw (is_header raw) refl)
    (ap (λ p. redacted_lines enc p behind) (next-by enc part raw (is_header raw) refl) ∙ lines-stay law enc forms (next_part part raw) raws)

part-stays : LedIsRead → (enc : Enc) → FormIsRead enc → (part : Part) (bytes : List ℕ) → redacted_in enc part (redacted_in enc part bytes) ≡ redacted_in enc part bytes
part-stays law enc forms part bytes =
    ap (λ raws. concat (redacted_lines enc part raws)) (raw_lines-redacted enc part bytes) ∙ ap concat (lines-stay law enc forms part (raw_lines bytes))

version-forms : FormIsRead Hex → FormIsRead Base64 → (version : Version) → FormIsRead (enc_of version)
version-forms hex base64 V03 = hex
version-forms hex base64 V04 = hex
version-forms hex base64 V05 = base64

pub stays : LedIsRead → FormIsRead Hex → FormIsRead Base64 → (bytes : List ℕ) → redacted (redacted bytes) ≡ redacted bytes
stays law hex base64 bytes =
    let enc = enc_of (index_of bytes).version in
    ap (λ v. redacted_in (enc_of v) Other (redacted bytes)) (version-redacted enc bytes)
    ∙ part-stays law enc (version-forms hex base64 (index_of bytes).version) Other bytes
