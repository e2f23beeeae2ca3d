-- A line that refers to a binary has a mark behind its address, and is short.
use Rattle.std.proofs.Common.{◌≡◌, ℕ, zero, suc, ◌+◌, ◌-◌, ◌<◌, ◌≤◌, ◌==◌, ◌↔◌, Bool, true, false, List, [], ◌∷◌, ◌++◌, length, take, drop, Option, None, Some, if◌then◌else◌, refl, sym, ◌∙◌, ap, subst, arith, append_assoc, length-append}
use Rattle.std.specs.Prelude.{codes, nat_eq, slice_index}
use Rattle.std.specs.List.{concat, ends_with, filter_map, between}
use Rattle.std.specs.Option.{option_and_then, option_to_list}
use Rattle.std.proofs.lemmas.Bool.{eqb-true}
use Rattle.std.proofs.lemmas.List.{take_all, get_or-take, get_or_append_left, get_or-append-add, get_or-drop, take-append-drop, length-take-le, length-take, length-drop, take_rest, drop-drop, drop-take}
use Rattle.memchr.specs.Find.{OccursAt, NoneBefore, Nowhere, Passes, is_byte}
use Rattle.memchr.proofs.lemmas.FindLemmas.{Nowhere-then, Nowhere-more}
use Rattle.dump_io.specs.Laws.HexNumbers.{hex_number-short}
use Rattle.dump_io.specs.Laws.Lines.{AreLines-raw}
use Rattle.dump_io.specs.Laws.Options.{none-of}
use Rattle.dump_io.specs.Laws.Reads.{take-two}
use Rattle.dump_io.specs.Lines.{lf, cr, raw_lines, text_of}
use Rattle.dump_io.specs.Numbers.{hex_number}
use Rattle.binary_payloads.specs.declared.enc.Enc.{Enc}
use Rattle.term_forms.specs.Forms.{HeapForm, RefBin, SubBin, IsForm, IsRange}
use Rattle.term_forms.specs.ReadingForms.{form_of}
use Rattle.term_forms.specs.Words.{colon, led_of, IsLed}
use Rattle.binary_holders.specs.declared.texts.Reference.{Reference}
use Rattle.binary_holders.specs.HeapReferences.{referred}
use Rattle.binary_holders.specs.Inner.Lines.{text_reference, line_reference, line_references, IsMarked, IsReferenceMark, mark}
use Rattle.body_lines.specs.Lines.{AreWhole, HasNoLf}
use Rattle.body_lines.specs.Laws.{lines-first}
use Rattle.binary_holders.proofs.LineFacts.{references-whole, one-more}

-- ---- what the laws of the grammar say

abbrev pub AreLed : Type 0
AreLed = (text : List ℕ) (n : ℕ) (rest : List ℕ) → (led_of text ≡ Some (n, rest)) ↔ IsLed text n rest

abbrev pub AreForms : Enc → Type 0
AreForms enc = (text : List ℕ) (f : HeapForm) → (form_of enc text ≡ Some f) ↔ IsForm enc text f

abbrev pub binary_mark : List ℕ
binary_mark = codes ":Y"

-- a text that refers to a binary: its address in hex, a mark, and a range
pub record Refers (text : List ℕ) : Type 0 where
  pub hex : List ℕ
  pub address : ℕ
  pub is_hex : hex_number hex ≡ Some address
  pub whole : Bool
  pub range : List ℕ
  pub binary : ℕ
  pub offset : ℕ
  pub size : ℕ
  pub is_range : IsRange range binary offset size
  pub text_is : text ≡ hex ++ (mark whole ++ range)

-- only the form of such a text is a reference to a binary
pub refers-range : (enc : Enc) → AreForms enc → (rest : List ℕ) (address : ℕ) (n : Reference) (f : Option HeapForm) → form_of enc rest ≡ f → referred address f ≡ Some n
    → (whole : Bool) × (range : List ℕ) × (colon ∷ rest ≡ mark whole ++ range) × (binary : ℕ) × (offset : ℕ) × (size : ℕ) × IsRange range binary offset size
refers-range enc forms rest address n (Some (RefBin binary offset size)) found refers =
    let spelled = (forms rest (RefBin binary offset size)).0 found in (true, spelled.0, ap (λ l. colon ∷ l) spelled.1, binary, offset, size, spelled.2)
refers-range enc forms rest address n (Some (SubBin binary offset size)) found refers =
    let spelled = (forms rest (SubBin binary offset size)).0 found in (false, spelled.0, ap (λ l. colon ∷ l) spelled.1, binary, offset, size, spelled.2)
refers-range enc forms rest address n f found refers = absurd (let no : ⊥ = cc (refers) in no)

refers-form : (enc : Enc) → AreForms enc → (text hex rest : List ℕ) (address : ℕ) (n : Reference) → hex_number hex ≡ Some address → text ≡ hex ++ colon ∷ rest
    → referred address (form_of enc rest) ≡ Some n → Refers text
refers-form enc forms text hex rest address n is_hex is refers =
    let spelled = refers-range enc forms rest address n (form_of enc rest) refl refers in
    record {
      hex = hex;
      address = address;
      is_hex = is_hex;
      whole = spelled.0;
      range = spelled.1;
      binary = spelled.3;
      offset = spelled.4;
      size = spelled.5;
      is_range = spelled.6;
      text_is = is ∙ ap (λ l. hex ++ l) spelled.2;
    }

pub refers : (enc : Enc) → AreLed → AreForms enc → (text : List ℕ) (n : Reference) → text_reference enc text ≡ Some n → Refers text
refers enc leds forms text n is = by (led_of text) refl
  where
    by : (o : Option (ℕ × List ℕ)) → led_of text ≡ o → Refers text
    by None found = absurd (let e = sym (ap (option_and_then (λ (led : ℕ × List ℕ). referred led.0 (form_of enc led.1))) found) ∙ is in let no : ⊥ = cc (e) in no)
    by (Some led) found =
        let whole = (leds text led.0 led.1).0 found in
        refers-form enc forms text whole.0 led.1 led.0 n whole.1 whole.2
        (sym (ap (option_and_then (λ (led : ℕ × List ℕ). referred led.0 (form_of enc led.1))) found) ∙ is)

-- ---- its length

range-short : (range : List ℕ) (binary offset size : ℕ) → IsRange range binary offset size → length range ≤ 50
range-short range binary offset size is =
    let first = is.2 in
    let second = is.3 in
    let one = hex_number-short first.0 binary first.1 in
    let two = hex_number-short second.0 offset second.1 in
    let three = hex_number-short is.1 size is.4 in
    let whole = ap length first.2 ∙ length-append first.0 (colon ∷ is.0) in
    let behind = ap length second.2 ∙ length-append second.0 (colon ∷ is.1) in
    omega (arith, one, two, three, whole, behind)

pub refers-short : (text : List ℕ) → Refers text → length text ≤ 69
refers-short text is =
    let one = hex_number-short is.hex is.address is.is_hex in
    let more = range-short is.range is.binary is.offset is.size is.is_range in
    let whole = ap length is.text_is ∙ length-append is.hex (mark is.whole ++ is.range) in
    omega (arith, one, more, whole)

-- ---- the mark in it

occurs-between : (front needle behind : List ℕ) → OccursAt (front ++ (needle ++ behind)) needle (length front)
occurs-between front needle behind = record {
  fits = omega (arith, length-append front (needle ++ behind), length-append needle behind);
  reads = λ j inside. get_or-append-add front (needle ++ behind) j 0 ∙ get_or_append_left needle behind 0 j inside;
}

refers-mark : (text : List ℕ) → Refers text → (k : ℕ) × IsReferenceMark text k
refers-mark text is =
    (length is.hex, (is.whole, subst (λ l. OccursAt l (mark is.whole) (length is.hex)) (sym is.text_is) (occurs-between is.hex (mark is.whole) is.range)))

-- a text is a front of its line
pub text-front : (raw : List ℕ) → (m : ℕ) × (text_of raw ≡ take m raw) × (length raw ≤ length (text_of raw) + 2)
text-front raw = by (ends_with nat_eq raw (cr ∷ lf ∷ [])) (ends_with nat_eq raw (lf ∷ []))
  where
    by : (a b : Bool) → (m : ℕ) × ((if a then take (length raw - 2) raw else (if b then take (length raw - 1) raw else raw)) ≡ take m raw)
        × (length raw ≤ length (if a then take (length raw - 2) raw else (if b then take (length raw - 1) raw else raw)) + 2)
    by true b = (length raw - 2, refl, omega (arith, length-take (length raw - 2) raw))
    by false true = (length raw - 1, refl, omega (arith, length-take (length raw - 1) raw))
    by false false = (length raw, sym (take_all (length raw) raw (omega arith)), omega arith)

mark-take : (m k : ℕ) (bytes : List ℕ) → IsReferenceMark (take m bytes) k → IsReferenceMark bytes k
mark-take m k bytes (whole, is) = (
  whole,
  record {
    fits = omega (arith, is.fits, length-take m bytes);
    reads = λ j inside.
        let below : k + j < m = omega (arith, inside, is.fits, length-take m bytes) in
        sym (get_or-take m bytes (k + j) 0 below) ∙ is.reads j inside;
  },
)

mark-left : (xs ys : List ℕ) (k : ℕ) → IsReferenceMark xs k → IsReferenceMark (xs ++ ys) k
mark-left xs ys k (whole, is) = (
  whole,
  record {
    fits = omega (arith, is.fits, length-append xs ys);
    reads = λ j inside. get_or_append_left xs ys 0 (k + j) (omega (arith, inside, is.fits)) ∙ is.reads j inside;
  },
)

mark-right : (xs ys : List ℕ) (k : ℕ) → IsReferenceMark ys k → IsReferenceMark (xs ++ ys) (length xs + k)
mark-right xs ys k (whole, is) = (
  whole,
  record {
    fits = omega (arith, is.fits, length-append xs ys);
    reads = λ j inside.
        let same : length xs + k + j ≡ length xs + (k + j) = omega arith in
        ap (λ n. slice_index (xs ++ ys) n) same ∙ get_or-append-add xs ys (k + j) 0 ∙ is.reads j inside;
  },
)

-- ---- the mark by its `Y`

pub marks-none : (bytes : List ℕ) → Nowhere (Passes (is_byte 89) bytes) 0 (length bytes) → Nowhere (OccursAt bytes binary_mark) 0 (length bytes + 1)
marks-none bytes none = λ k low high is. none (k + 1) (omega arith) (let room = is.fits in omega (arith, room)) (ap (λ c. c == 89) (is.reads 1 (omega arith)))

mark-around : (bytes : List ℕ) (at : ℕ) → slice_index bytes at ≡ 58 → slice_index bytes (at + 1) ≡ 89
    → (j : ℕ) → j < 2 → slice_index bytes (at + j) ≡ slice_index binary_mark j
mark-around bytes at first second zero inside = (let e : at + 0 ≡ at = omega arith in ap (slice_index bytes) e) ∙ first
mark-around bytes at first second (suc zero) inside = second
mark-around bytes at first second (suc (suc j)) inside = absurd (omega (arith, inside))

pub mark-at : (bytes : List ℕ) (place : ℕ) → place < length bytes → NoneBefore (Passes (is_byte 89) bytes) 0 (length bytes) place → Passes (is_byte 89) bytes place → IsMarked bytes place
    → NoneBefore (OccursAt bytes binary_mark) 0 (length bytes + 1) (place - 1) × OccursAt bytes binary_mark (place - 1)
mark-at bytes place room first here around =
    let some = around.0 in
    let second : slice_index bytes (place - 1 + 1) ≡ 89 =
    (let e : place - 1 + 1 ≡ place = omega (arith, some) in ap (slice_index bytes) e) ∙ eqb-true (slice_index bytes place) 89 here in (
      record {
        low = omega arith;
        high = omega (arith, room);
        before = λ k low high is. first.before (k + 1) (omega arith) (omega (arith, high, some)) (ap (λ c. c == 89) (is.reads 1 (omega arith)));
      },
      record { fits = omega (arith, room, some); reads = mark-around bytes (place - 1) around.1 second },
    )

-- ---- the mark of a reference among those of binaries

any-mark : (bytes : List ℕ) (k : ℕ) → IsReferenceMark bytes k → OccursAt bytes binary_mark k
any-mark bytes k (whole, is) = record {
  fits = (let room = is.fits in omega (arith, room));
  reads = λ j inside. is.reads j (omega (arith, inside)) ∙ get_or_append_left binary_mark (drop 2 (mark whole)) 0 j inside;
}

-- what stands behind a place at which no mark of a reference was found
module _ (bytes : List ℕ) (from : ℕ) (within : from ≤ length bytes) (before : Nowhere (IsReferenceMark bytes) 0 from) where
  abbrev behind : List ℕ
  behind = take (length bytes - from) (drop from bytes)

  at-behind : (k : ℕ) → slice_index behind k ≡ slice_index bytes (from + k)
  at-behind k = ap (λ l. slice_index l k) (take_rest bytes from) ∙ get_or-drop from bytes k 0

  size-behind : length behind ≡ length bytes - from
  size-behind = ap length (take_rest bytes from) ∙ length-drop from bytes

  occurs-behind : (k : ℕ) → from ≤ k → OccursAt bytes binary_mark k → OccursAt behind binary_mark (k - from)
  occurs-behind k low is = record {
    fits = (let room = is.fits in omega (arith, low, room, size-behind));
    reads = λ j inside.
        at-behind (k - from + j) ∙ (let e : from + (k - from + j) ≡ k + j = omega (arith, low) in ap (slice_index bytes) e) ∙ is.reads j inside;
  }

  none-upto : (n : ℕ) → Nowhere (OccursAt behind binary_mark) 0 n → Nowhere (IsReferenceMark bytes) 0 (from + n)
  none-upto n none =
      Nowhere-then before (λ k low high is. none (k - from) (omega arith) (omega (arith, low, high)) (occurs-behind k low (any-mark bytes k is)))

  -- where there is no mark, there is none of a reference
  pub no-mark : Nowhere (OccursAt behind binary_mark) 0 (length behind + 1) → Nowhere (IsReferenceMark bytes) 0 (length bytes)
  no-mark none = λ k low high. none-upto (length behind + 1) none k low (omega (arith, high, size-behind))

  -- before the first mark there is none of a reference
  pub next-mark : (n : ℕ) → NoneBefore (OccursAt behind binary_mark) 0 (length behind + 1) n → OccursAt behind binary_mark n
      → Nowhere (IsReferenceMark bytes) 0 (from + n) × OccursAt bytes binary_mark (from + n)
  next-mark n first is = (
    none-upto n first.before,
    record {
      fits = (let room = is.fits in omega (arith, within, room, size-behind));
      reads = λ j inside. (let e : from + n + j ≡ from + (n + j) = omega arith in ap (slice_index bytes) e) ∙ sym (at-behind (n + j)) ∙ is.reads j inside;
    },
  )

-- a mark that isn't of a reference is passed over
pub none-passed : (bytes : List ℕ) (at : ℕ) → OccursAt bytes binary_mark at → Nowhere (IsReferenceMark bytes) 0 at → ¬ IsReferenceMark bytes at → Nowhere (IsReferenceMark bytes) 0 (at + 2)
none-passed bytes at here before other =
    let next : at + 1 + 1 ≡ at + 2 = omega arith in
    subst (Nowhere (IsReferenceMark bytes) 0) next
    (Nowhere-more (Nowhere-more before other) (λ is.
    let same : at + 1 + 0 ≡ at + 1 = omega arith in
    let first : slice_index bytes (at + 1) ≡ 58 = ap (slice_index bytes) (sym same) ∙ (any-mark bytes (at + 1) is).reads 0 (omega arith) in
    let second : slice_index bytes (at + 1) ≡ 89 = here.reads 1 (omega arith) in
    omega (arith, first, second)))

-- ---- a line without such a mark, and a long one

module _ (enc : Enc) (leds : AreLed) (forms : AreForms enc) where
  line-mark : (raw : List ℕ) (n : Reference) → line_reference enc raw ≡ Some n → (k : ℕ) × IsReferenceMark raw k
  line-mark raw n is =
      let found = refers-mark (text_of raw) (refers enc leds forms (text_of raw) n is) in
      let front = text-front raw in
      (found.0, mark-take front.0 found.0 raw (subst (λ l. IsReferenceMark l found.0) front.1 found.1))

  pub line-long : (raw : List ℕ) → 72 ≤ length raw → line_reference enc raw ≡ None
  line-long raw long =
      none-of (line_reference enc raw) (λ n is.
      let short = refers-short (text_of raw) (refers enc leds forms (text_of raw) n is) in
      let front = text-front raw in
      omega (arith, short, front.2, long))

  lines-unmarked : (lines : List (List ℕ)) → ((k : ℕ) → IsReferenceMark (concat lines) k → ⊥) → filter_map (line_reference enc) lines ≡ []
  lines-unmarked [] none = refl
  lines-unmarked (line ∷ lines) none =
      one-more (line_reference enc) line lines
      ∙ ap (λ o. option_to_list o ++ filter_map (line_reference enc) lines) (none-of (line_reference enc line) (λ n is.
      let found = line-mark line n is in
      none found.0 (mark-left line (concat lines) found.0 found.1)))
      ∙ lines-unmarked lines (λ k is. none (length line + k) (mark-right line (concat lines) k is))

  pub unmarked : (bytes : List ℕ) → ((k : ℕ) → IsReferenceMark bytes k → ⊥) → line_references enc bytes ≡ []
  unmarked bytes none =
      lines-unmarked (raw_lines bytes) (λ k is. none k (subst (λ l. IsReferenceMark l k) (AreLines-raw bytes).together is))

  -- ---- the first line with such a mark

  pub marked : (bytes : List ℕ) (at start n : ℕ) → at < length bytes → Nowhere (IsReferenceMark bytes) 0 at → start ≤ at
      → AreWhole (take start (take at bytes)) → HasNoLf (drop start (take at bytes)) → n ≤ length (drop at bytes)
      → raw_lines (drop at bytes) ≡ take n (drop at bytes) ∷ raw_lines (drop n (drop at bytes))
      → line_references enc bytes ≡ option_to_list (line_reference enc (between start (at + n) bytes)) ++ line_references enc (drop (at + n) bytes)
  marked bytes at start n inside before within whole free fits first =
      let front = take start (take at bytes) in
      let middle = drop start (take at bytes) in
      let rest = drop at bytes in
      let parts : bytes ≡ front ++ (middle ++ rest) =
      sym (take-append-drop at bytes) ∙ ap (λ l. l ++ rest) (sym (take-append-drop start (take at bytes))) ∙ append_assoc front middle rest in
      let len : length (take at bytes) ≡ at = length-take-le at bytes (omega (arith, inside)) in
      let unseen : line_references enc front ≡ [] =
      unmarked front (λ k is.
      before k (omega arith) (let room = is.1.fits in omega (arith, room, length-take start (take at bytes), within))
      (mark-take at k bytes (mark-take start k (take at bytes) is))) in
      let size : at + n - start ≡ (at - start) + n = omega (arith, within) in
      let cut : middle ≡ take (at - start) (drop start bytes) =
      (let e : at ≡ start + (at - start) = omega (arith, within) in ap (λ m. drop start (take m bytes)) e) ∙ drop-take start (at - start) bytes in
      let later : drop (at - start) (drop start bytes) ≡ rest = drop-drop (at - start) start bytes ∙ (let e : start + (at - start) ≡ at = omega (arith, within) in ap (λ m. drop m bytes) e) in
      let line : between start (at + n) bytes ≡ middle ++ take n rest =
      ap (λ m. take m (drop start bytes)) size ∙ take-two (at - start) n (drop start bytes) ∙ ap (λ l. l ++ take n (drop (at - start) (drop start bytes))) (sym cut) ∙ ap (λ l. middle ++ take n l) later in
      ap (line_references enc) parts
      ∙ references-whole enc front (middle ++ rest) whole
      ∙ ap (λ l. l ++ line_references enc (middle ++ rest)) unseen
      ∙ ap (filter_map (line_reference enc)) (lines-first middle rest (take n rest) (raw_lines (drop n rest)) free first)
      ∙ one-more (line_reference enc) (middle ++ take n rest) (raw_lines (drop n rest))
      ∙ ap (λ l. option_to_list (line_reference enc l) ++ line_references enc (drop n rest)) (sym line)
      ∙ ap (λ l. option_to_list (line_reference enc (between start (at + n) bytes)) ++ line_references enc l) (drop-drop n at bytes)
