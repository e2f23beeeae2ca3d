-- Which addresses are told as those of lines that may be heap binaries: each that is one is among them.
use Rattle.std.proofs.Common.{◌≡◌, ◌↔◌, ℕ, ◌+◌, ◌-◌, ◌==◌, nat_eq, Bool, true, false, cond, if◌then◌else◌, List, [], ◌∷◌, ◌++◌, length, take, drop, map, codes, Option, None, Some, IsSome, is_some, refl, sym, ◌∙◌, ap, append_assoc, append-nil, length-append, take-append-drop, arith}
use Rattle.std.specs.Prelude.{find}
use Rattle.std.specs.List.{filter_map, cons_option, ends_with}
use Rattle.std.specs.Option.{option_and_then, option_map}
use Rattle.std.proofs.Math.Seq.{drop-append_seam}
use Rattle.std.proofs.lemmas.Bool.{false≢true}
use Rattle.std.proofs.lemmas.Option.{none-some, some_pair_parts}
use Rattle.dump_io.specs.Letters.{letter}
use Rattle.dump_io.specs.Lines.{cr, lf, lines_from, raw_lines, text_of}
use Rattle.field_lines.specs.Lines.{text_line}
use Rattle.binary_payloads.specs.declared.enc.Enc.{Enc}
use Rattle.binary_refs.specs.Previews.{own_binary}
use Rattle.body_lines.specs.Lines.{cut, cut_lines}
use Rattle.heap_cells.specs.Cells.{Cell, first_cells, line_cells, spelled_cell}
use Rattle.heap_cells.specs.HeapMap.{form_at, number_at}
use Rattle.heap_cells.specs.Places.{place_with}
use Rattle.term_forms.specs.Forms.{HeapForm, HeapBin, IsForm}
use Rattle.term_forms.specs.ReadingForms.{form_of}
use Rattle.term_forms.specs.Words.{colon, led_of, IsLed}
use Rattle.term_unfold.specs.Parts.{has_binary}
use Rattle.heap_parts.specs.Inner.Growing.{first_with}
use Rattle.heap_parts.specs.Inner.Hearing.{heard_binaries, heard_binary, may_begin_binary}
use Rattle.heap_parts.specs.Tables.{begins_binary, binary_line, binary_lines}
use Rattle.heap_parts.proofs.FirstFacts.{form-lines}
use Rattle.heap_parts.proofs.PlaceFacts.{cells_from}

-- ---- lines that spell heap binaries

-- what a form's text computes to is the form that it spells
abbrev pub FormIsRead : Enc → Type 0
FormIsRead enc = (text : List ℕ) (f : HeapForm) → (form_of enc text ≡ Some f) ↔ IsForm enc text f

-- whether a cell is a heap binary
abbrev pub spells_binary : Option Cell → Bool
spells_binary cell = is_some (option_and_then (λ (c : Cell). option_and_then own_binary c.form) cell)

begins : (enc : Enc) → FormIsRead enc → (text : List ℕ) → IsSome (option_and_then own_binary (form_of enc text)) → begins_binary text ≡ true
begins enc read text some = by (form_of enc text) refl some
  where
    by : (form : Option HeapForm) → form_of enc text ≡ form → IsSome (option_and_then own_binary form) → begins_binary text ≡ true
    by None is some = absurd (false≢true some)
    by (Some (HeapBin size chars)) is some = let form = (read text (HeapBin size chars)).0 is in ap begins_binary form.1
    by (Some form) is some = absurd (false≢true some)

-- the addresses and offsets of these raw lines, if their forms begin so
abbrev binaries_from : ℕ → ℕ → List (List ℕ) → List (ℕ × ℕ)
binaries_from base at raws = filter_map (binary_line base) (map text_line (lines_from at raws))

-- one more place in front of others hides none
keeps : (o : Option (ℕ × ℕ)) (places : List (ℕ × ℕ)) (a : ℕ) → IsSome (place_with places a) → IsSome (place_with (cons_option o places) a)
keeps None places a some = some
keeps (Some place) places a some =
    elim (place.0 == a) as (λ b. IsSome (option_map (λ (p : ℕ × ℕ). p.1) (cond b (Some place) (find (λ (p : ℕ × ℕ). p.0 == a) places)))) [ true ↦ refl | false ↦ some ]

tells-from : (enc : Enc) → FormIsRead enc → (a base at : ℕ) (raws : List (List ℕ)) → spells_binary (first_with (cells_from enc at raws) a) ≡ true
    → IsSome (place_with (binaries_from base at raws) a)
tells-from enc read a base at [] some = absurd (false≢true some)
tells-from enc read a base at (raw ∷ raws) some = by (led_of (text_of raw)) (tells-from enc read a base (at + length raw) raws) some
  where
    places : List (ℕ × ℕ)
    places = binaries_from base (at + length raw) raws

    cells : List Cell
    cells = cells_from enc (at + length raw) raws

    by : (led : Option (ℕ × List ℕ)) → (spells_binary (first_with cells a) ≡ true → IsSome (place_with places a))
        → spells_binary (first_with (cons_option (option_map (spelled_cell enc) led) cells) a) ≡ true
        → IsSome (place_with (cons_option (option_and_then (λ (l : ℕ × List ℕ). if begins_binary l.1 then Some (l.0, base + at) else None) led) places) a)
    by None rest some = rest some
    by (Some led) rest some = here (led.0 == a) refl some
      where
        here : (same : Bool) → (led.0 == a) ≡ same → spells_binary (cond same (Some (spelled_cell enc led)) (first_with cells a)) ≡ true
            → IsSome (place_with (cons_option (if begins_binary led.1 then Some (led.0, base + at) else None) places) a)
        here true same some =
            ap (λ b. is_some (place_with (cons_option (if b then Some (led.0, base + at) else None) places) a)) (begins enc read led.1 some)
            ∙ ap (λ b. is_some (option_map (λ (p : ℕ × ℕ). p.1) (cond b (Some (led.0, base + at)) (find (λ (p : ℕ × ℕ). p.0 == a) places)))) same
        here false other some = keeps (if begins_binary led.1 then Some (led.0, base + at) else None) places a (rest some)

-- a line that is the first with its address and spells a heap binary has a form that begins so
pub binary-placed : (enc : Enc) → FormIsRead enc → (base a : ℕ) (body : List ℕ) → spells_binary (first_with (line_cells enc body) a) ≡ true
    → IsSome (place_with (binary_lines base body) a)
binary-placed enc read base a body some = tells-from enc read a base 0 (raw_lines body) some

-- ---- the heap binaries of a heap

binary-by : (cells : List Cell) (number : Option ℕ)
    → option_and_then own_binary (option_and_then (form_at cells) number) ≡ option_and_then (option_and_then own_binary) (option_map (form_at cells) number)
binary-by cells None = refl
binary-by cells (Some n) = refl

spelled-by : (cell : Option Cell) → is_some (option_and_then (option_and_then own_binary) (option_map (λ (c : Cell). c.form) cell)) ≡ spells_binary cell
spelled-by None = refl
spelled-by (Some cell) = refl

-- an address has a heap binary exactly if the first cell with it is one
pub binary-first : (all : List Cell) (a : ℕ) → has_binary (first_cells [] all) a ≡ spells_binary (first_with all a)
binary-first all a =
    ap is_some (binary-by (first_cells [] all) (number_at (first_cells [] all) a) ∙ ap (option_and_then (option_and_then own_binary)) (form-lines all a))
    ∙ spelled-by (first_with all a)

-- ---- what is heard of such lines

-- a raw line is its text and its end
split : (raw : List ℕ) → (end : List ℕ) × (raw ≡ text_of raw ++ end)
split raw = by (ends_with nat_eq raw (cr ∷ lf ∷ [])) (ends_with nat_eq raw (lf ∷ []))
  where
    by : (two one : Bool) → (end : List ℕ) × (raw ≡ (if two then take (length raw - 2) raw else (if one then take (length raw - 1) raw else raw)) ++ end)
    by true one = (drop (length raw - 2) raw, sym (take-append-drop (length raw - 2) raw))
    by false true = (drop (length raw - 1) raw, sym (take-append-drop (length raw - 1) raw))
    by false false = ([], sym (append-nil raw))

-- where a text goes on as a form that begins so, what is heard of it begins so or is nothing
may-begin : (rest more spelled end : List ℕ) → rest ++ more ≡ spelled ++ end → begins_binary spelled ≡ true → may_begin_binary rest ≡ true
may-begin [] more spelled end same begun = refl
may-begin (c ∷ rest) more [] end same begun = absurd (false≢true begun)
may-begin (c ∷ rest) more (d ∷ spelled) end same begun = let first : c ≡ d = cc (same) in ap (λ x. x == letter (codes "Y")) first ∙ begun

module _ (found : (text rest : List ℕ) (n : ℕ) → led_of (take 17 text) ≡ Some (n, rest) → led_of text ≡ Some (n, drop (length (take 17 text) - length rest) text))
    (none : (text : List ℕ) → led_of (take 17 text) ≡ None → led_of text ≡ None)
    (led_read : (text : List ℕ) (n : ℕ) (rest : List ℕ) → (led_of text ≡ Some (n, rest)) ↔ IsLed text n rest) where
  -- what stands behind the number and the colon
  behind : (text rest more : List ℕ) (n : ℕ) → IsLed text n rest → drop (length text - length rest) (text ++ more) ≡ rest ++ more
  behind text rest more n led =
      let front = led.0 ++ colon ∷ [] in
      let parts : text ≡ front ++ rest = led.2 ∙ sym (append_assoc led.0 (colon ∷ []) rest) in
      let size : length text - length rest ≡ length front = omega (arith, ap length parts, length-append front rest) in
      ap (λ k. drop k (text ++ more)) size ∙ ap (λ t. drop (length front) (t ++ more)) parts ∙ ap (drop (length front)) (append_assoc front rest more)
      ∙ drop-append_seam front (rest ++ more)

  heard-front : (raw spelled : List ℕ) (n : ℕ) → led_of (text_of raw) ≡ Some (n, spelled) → begins_binary spelled ≡ true
      → (rest : List ℕ) × (led_of (take 17 raw) ≡ Some (n, rest)) × (may_begin_binary rest ≡ true)
  heard-front raw spelled n is begun = by (led_of (take 17 raw)) refl
    where
      end : List ℕ
      end = (split raw).0

      whole : led_of raw ≡ Some (n, spelled ++ end)
      whole =
          let led : IsLed (text_of raw) n spelled = (led_read (text_of raw) n spelled).0 is in
          (led_read raw n (spelled ++ end)).1 (led.0, led.1, (split raw).1 ∙ ap (λ l. l ++ end) led.2 ∙ append_assoc led.0 (colon ∷ spelled) end)

      by : (o : Option (ℕ × List ℕ)) → led_of (take 17 raw) ≡ o → (rest : List ℕ) × (led_of (take 17 raw) ≡ Some (n, rest)) × (may_begin_binary rest ≡ true)
      by None lacks = absurd (none-some (n, spelled ++ end) (sym (none raw lacks) ∙ whole))
      by (Some (m, rest)) front =
          let k = length (take 17 raw) - length rest in
          let parts = some_pair_parts m n (drop k raw) (spelled ++ end) (sym (found raw rest m front) ∙ whole) in
          let on : drop k raw ≡ rest ++ drop 17 raw =
          ap (drop k) (sym (take-append-drop 17 raw)) ∙ behind (take 17 raw) rest (drop 17 raw) m ((led_read (take 17 raw) m rest).0 front) in (
            rest,
            front ∙ ap (λ i. Some (i, rest)) parts.0,
            may-begin rest (drop 17 raw) spelled end (sym on ∙ parts.1) begun,
          )

  heard-from : (a base at : ℕ) (raws : List (List ℕ)) → IsSome (place_with (binaries_from base at raws) a)
      → IsSome (place_with (heard_binaries (map (cut 17) (lines_from (base + at) raws))) a)
  heard-from a base at [] some = absurd (false≢true some)
  heard-from a base at (raw ∷ raws) some = by (later (heard-from a base (at + length raw) raws)) (led_of (text_of raw)) refl some
    where
      heard : Option (ℕ × ℕ)
      heard = heard_binary (record { at = base + at; front = take 17 raw; size = length raw })

      behind-it : List (ℕ × ℕ)
      behind-it = binaries_from base (at + length raw) raws

      places : List (ℕ × ℕ)
      places = heard_binaries (map (cut 17) (lines_from (base + at + length raw) raws))

      later : (IsSome (place_with behind-it a) → IsSome (place_with (heard_binaries (map (cut 17) (lines_from (base + (at + length raw)) raws))) a))
          → IsSome (place_with behind-it a) → IsSome (place_with places a)
      later rest some =
          let next : base + at + length raw ≡ base + (at + length raw) = omega arith in
          ap (λ k. is_some (place_with (heard_binaries (map (cut 17) (lines_from k raws))) a)) next ∙ rest some

      by : (IsSome (place_with behind-it a) → IsSome (place_with places a)) → (led : Option (ℕ × List ℕ)) → led_of (text_of raw) ≡ led
          → IsSome (place_with (cons_option (option_and_then (λ (l : ℕ × List ℕ). if begins_binary l.1 then Some (l.0, base + at) else None) led) behind-it) a)
          → IsSome (place_with (cons_option heard places) a)
      by rest None is some = keeps heard places a (rest some)
      by rest (Some led) is some = begun (begins_binary led.1) refl some
        where
          here : (same : Bool) → (led.0 == a) ≡ same → begins_binary led.1 ≡ true
              → IsSome (option_map (λ (p : ℕ × ℕ). p.1) (cond same (Some (led.0, base + at)) (find (λ (p : ℕ × ℕ). p.0 == a) behind-it)))
              → IsSome (place_with (cons_option heard places) a)
          here true same begun some =
              let front = heard-front raw led.1 led.0 is begun in
              ap (λ o. is_some (place_with (cons_option (option_and_then (λ (l : ℕ × List ℕ). if may_begin_binary l.1 then Some (l.0, base + at) else None) o) places) a)) front.1
              ∙ ap (λ b. is_some (place_with (cons_option (if b then Some (led.0, base + at) else None) places) a)) front.2
              ∙ ap (λ b. is_some (option_map (λ (p : ℕ × ℕ). p.1) (cond b (Some (led.0, base + at)) (find (λ (p : ℕ × ℕ). p.0 == a) places)))) same
          here false other begun some = keeps heard places a (rest some)

          begun : (b : Bool) → begins_binary led.1 ≡ b → IsSome (place_with (cons_option (if b then Some (led.0, base + at) else None) behind-it) a)
              → IsSome (place_with (cons_option heard places) a)
          begun true is_so some = here (led.0 == a) refl is_so some
          begun false is_not some = keeps heard places a (rest some)

  -- each address of a line whose form begins so is heard
  pub binaries-heard : (base a : ℕ) (body : List ℕ) → IsSome (place_with (binary_lines base body) a) → IsSome (place_with (heard_binaries (cut_lines 17 base body)) a)
  binaries-heard base a body some =
      let start : base ≡ base + 0 = omega arith in
      ap (λ k. is_some (place_with (heard_binaries (map (cut 17) (lines_from k (raw_lines body)))) a)) start ∙ heard-from a base 0 (raw_lines body) some
