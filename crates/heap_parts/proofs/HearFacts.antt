-- What is heard of lines has the addresses and offsets of the heap lines.
use Rattle.std.proofs.Common.{◌≡◌, ◌⊎◌, ℕ, suc, ◌+◌, ◌-◌, ◌<◌, ◌≤◌, ◌==◌, nat_eq, Bool, true, false, not, ◌||◌, cond, if◌then◌else◌, List, [], ◌∷◌, ◌++◌, length, take, drop, map, min, take-take, Option, None, Some, IsSome, is_some, refl, sym, ◌∙◌, ap, ap₂, append_assoc, append-nil, take-append-drop, arith}
use Rattle.std.specs.Prelude.{find, Result, Ok, Err, IfErr}
use Rattle.std.specs.declared.alloc.AllocError.{AllocError}
use Rattle.std.specs.List.{filter_map, cons_option, ends_with, position_or_len}
use Rattle.std.specs.Option.{option_map, option_and_then}
use Rattle.std.specs.Ordering.{is_eq, nat_cmp}
use Rattle.std.proofs.lemmas.Bool.{cases_order, false≢true}
use Rattle.std.proofs.lemmas.Bool.Decides.{nat_tests}
use Rattle.std.proofs.lemmas.List.{length-take-le, take_min}
use Rattle.std.proofs.lemmas.List.Elements.{filter_map-append}
use Rattle.std.proofs.lemmas.List.Folds.{list_any-append}
use Rattle.body_lines.specs.Hearing.{Hears, StopsAmong}
use Rattle.body_lines.specs.Lines.{CutLine, cut, cut_lines, one_line}
use Rattle.dump_io.specs.Colons.{is_colon, has_colon, before_colon, after_colon}
use Rattle.dump_io.specs.Laws.Texts.{bytes_eq-same}
use Rattle.dump_io.specs.Lines.{cr, lf, lines_from, raw_lines, text_of}
use Rattle.dump_io.specs.Numbers.{hex_number}
use Rattle.field_lines.specs.Lines.{text_line}
use Rattle.dump_sections.specs.Places.{place_by}
use Rattle.heap_cells.specs.Places.{placed_line, placed_lines, place_with}
use Rattle.term_forms.specs.Words.{led_of}
use Rattle.heap_parts.specs.declared.address_sink.AddressSink.{AddressSink}
use Rattle.heap_parts.specs.Inner.Hearing.{heard_binaries, heard_binary, heard_place, heard_places, may_begin_binary, TakesPlaces}
use Rattle.heap_parts.specs.Tables.{binary_lines, IsTableOf}

-- ---- the number that leads a text

abbrev number : List ℕ → Option ℕ
number text = option_map (λ led. led.0) (led_of text)

number-is : (text : List ℕ) → number text ≡ (if has_colon text then hex_number (before_colon text) else None)
unfolding led_of
number-is text =
    elim (has_colon text) as (λ b. option_map (λ (led : ℕ × List ℕ). led.0) (cond b (option_and_then (λ n. Some (n, after_colon text)) (hex_number (before_colon text))) None)
    ≡ cond b (hex_number (before_colon text)) None) [
      | true ↦ found (hex_number (before_colon text))
      | false ↦ refl
    ]
  where
    found : (o : Option ℕ) → option_map (λ (led : ℕ × List ℕ). led.0) (option_and_then (λ n. Some (n, after_colon text)) o) ≡ o
    found None = refl
    found (Some n) = refl

plus-one : (n : ℕ) → 1 + n ≡ suc n
plus-one n = omega arith

before-append : (text more : List ℕ) → has_colon text ≡ true → before_colon (text ++ more) ≡ before_colon text
before-append [] more has = absurd (false≢true has)
before-append (c ∷ text) more has =
    (elim (is_colon c) as (λ b. (b || has_colon text) ≡ true
    → take (cond (not b) (1 + position_or_len is_colon (text ++ more)) 0) (c ∷ (text ++ more)) ≡ take (cond (not b) (1 + position_or_len is_colon text) 0) (c ∷ text)) [
      | true ↦ (λ h. refl)
      | false ↦ (λ h.
          ap (λ n. take n (c ∷ (text ++ more))) (plus-one (position_or_len is_colon (text ++ more)))
          ∙ ap (λ l. c ∷ l) (before-append text more h)
          ∙ sym (ap (λ n. take n (c ∷ text)) (plus-one (position_or_len is_colon text))))
    ]) has

-- bytes without a colon behind a text don't change it
number-append : (text more : List ℕ) → has_colon more ≡ false → number (text ++ more) ≡ number text
number-append text more none = number-is (text ++ more) ∙ by (has_colon text) refl ∙ sym (number-is text)
  where
    whole : has_colon (text ++ more) ≡ (has_colon text || has_colon more)
    whole = list_any-append is_colon text more

    by : (b : Bool) → has_colon text ≡ b → (if has_colon (text ++ more) then hex_number (before_colon (text ++ more)) else None) ≡ (if has_colon text then hex_number (before_colon text) else None)
    by true has =
        ap (λ b. if b then hex_number (before_colon (text ++ more)) else None) (whole ∙ ap (λ b. b || has_colon more) has)
        ∙ ap hex_number (before-append text more has)
        ∙ sym (ap (λ b. if b then hex_number (before_colon text) else None) has)
    by false lacks =
        ap (λ b. if b then hex_number (before_colon (text ++ more)) else None) (whole ∙ ap (λ b. b || has_colon more) lacks ∙ none)
        ∙ sym (ap (λ b. if b then hex_number (before_colon text) else None) lacks)

number-cut : (raw end : List ℕ) (n : ℕ) → end ≡ drop n raw → has_colon end ≡ false → number (take n raw) ≡ number raw
number-cut raw end n is none = sym (number-append (take n raw) end none) ∙ ap (λ l. number (take n raw ++ l)) is ∙ ap number (take-append-drop n raw)

-- nor does the end of its line
number-text : (raw : List ℕ) → number (text_of raw) ≡ number raw
number-text raw = by (ends_with nat_eq raw (cr ∷ lf ∷ [])) refl (ends_with nat_eq raw (lf ∷ [])) refl
  where
    by : (a : Bool) → ends_with nat_eq raw (cr ∷ lf ∷ []) ≡ a → (b : Bool) → ends_with nat_eq raw (lf ∷ []) ≡ b
        → number (if a then take (length raw - 2) raw else (if b then take (length raw - 1) raw else raw)) ≡ number raw
    by true two b one = number-cut raw (cr ∷ lf ∷ []) (length raw - 2) (bytes_eq-same (cr ∷ lf ∷ []) (drop (length raw - 2) raw) two) refl
    by false two true one = number-cut raw (lf ∷ []) (length raw - 1) (bytes_eq-same (lf ∷ []) (drop (length raw - 1) raw) one) refl
    by false two false one = refl

-- ---- what is heard of lines

module _ (found : (text rest : List ℕ) (n : ℕ) → led_of (take 17 text) ≡ Some (n, rest) → led_of text ≡ Some (n, drop (length (take 17 text) - length rest) text))
    (none : (text : List ℕ) → led_of (take 17 text) ≡ None → led_of text ≡ None) where
  number-front : (raw : List ℕ) → number (take 17 raw) ≡ number raw
  number-front raw = by (led_of (take 17 raw)) refl
    where
      by : (led : Option (ℕ × List ℕ)) → led_of (take 17 raw) ≡ led → option_map (λ (led : ℕ × List ℕ). led.0) (led_of (take 17 raw)) ≡ option_map (λ (led : ℕ × List ℕ). led.0) (led_of raw)
      by None is = ap (option_map (λ (led : ℕ × List ℕ). led.0)) (is ∙ sym (none raw is))
      by (Some (n, rest)) is = ap (option_map (λ (led : ℕ × List ℕ). led.0)) is ∙ sym (ap (option_map (λ (led : ℕ × List ℕ). led.0)) (found raw rest n is))

  place-of : (place : ℕ) (led : Option (ℕ × List ℕ)) → option_map {U = ℕ × ℕ} (λ (l : ℕ × List ℕ). (l.0, place)) led ≡ option_map {U = ℕ × ℕ} (λ n. (n, place)) (option_map (λ (l : ℕ × List ℕ). l.0) led)
  place-of place None = refl
  place-of place (Some led) = refl

  place-heard : (raw : List ℕ) (place : ℕ) → option_map {U = ℕ × ℕ} (λ (l : ℕ × List ℕ). (l.0, place)) (led_of (take 17 raw)) ≡ option_map {U = ℕ × ℕ} (λ (l : ℕ × List ℕ). (l.0, place)) (led_of (text_of raw))
  place-heard raw place =
      place-of place (led_of (take 17 raw)) ∙ ap (option_map {U = ℕ × ℕ} (λ n. (n, place))) (number-front raw ∙ sym (number-text raw)) ∙ sym (place-of place (led_of (text_of raw)))

  lines-heard : (base at : ℕ) (raws : List (List ℕ)) → heard_places (map (cut 17) (lines_from (base + at) raws)) ≡ filter_map (placed_line base) (map text_line (lines_from at raws))
  lines-heard base at [] = refl
  lines-heard base at (raw ∷ raws) =
      let next : base + at + length raw ≡ base + (at + length raw) = omega arith in
      ap₂ cons_option (place-heard raw (base + at)) (ap (λ n. heard_places (map (cut 17) (lines_from n raws))) next ∙ lines-heard base (at + length raw) raws)

  pub body-heard : (base : ℕ) (body : List ℕ) → heard_places (cut_lines 17 base body) ≡ placed_lines base body
  body-heard base body =
      let start : base ≡ base + 0 = omega arith in
      ap (λ n. heard_places (map (cut 17) (lines_from n (raw_lines body)))) start ∙ lines-heard base 0 (raw_lines body)

  -- a sink that had nothing has them all
  pub all-heard : (old new : AddressSink) (base : ℕ) (body : List ℕ) (lines : List CutLine)
      → Hears TakesPlaces old new lines → old.lines.items ≡ [] → lines ≡ cut_lines 17 base body → new.lines.items ≡ placed_lines base body
  all-heard old new base body lines heard empty are =
      (heard.later old [] (record { taken = sym (append-nil old.lines.items); binaries = sym (append-nil old.binaries.items) })).taken
      ∙ ap (λ l. l ++ heard_places lines) empty ∙ ap heard_places are ∙ body-heard base body

-- a sink that had nothing has all that may be heap binaries
pub binaries-taken : (old new : AddressSink) (base : ℕ) (body : List ℕ) (lines : List CutLine)
    → Hears TakesPlaces old new lines → old.binaries.items ≡ [] → lines ≡ cut_lines 17 base body → new.binaries.items ≡ heard_binaries (cut_lines 17 base body)
binaries-taken old new base body lines heard empty are =
    (heard.later old [] (record { taken = sym (append-nil old.lines.items); binaries = sym (append-nil old.binaries.items) })).binaries
    ∙ ap (λ l. l ++ heard_binaries lines) empty ∙ ap heard_binaries are

-- ---- some lines more

pub one-heard : (at : ℕ) (front : List ℕ) (address : ℕ) (rest : List ℕ) (size : ℕ) → led_of front ≡ Some (address, rest) → heard_places (one_line at front size) ≡ (address, at) ∷ []
one-heard at front address rest size is = ap (λ o. cons_option (option_map {U = ℕ × ℕ} (λ (led : ℕ × List ℕ). (led.0, at)) o) []) is

pub none-heard : (at : ℕ) (front : List ℕ) (size : ℕ) → led_of front ≡ None → heard_places (one_line at front size) ≡ []
none-heard at front size is = ap (λ o. cons_option (option_map {U = ℕ × ℕ} (λ (led : ℕ × List ℕ). (led.0, at)) o) []) is

pub one-binary : (at : ℕ) (front : List ℕ) (address : ℕ) (rest : List ℕ) (size : ℕ) → led_of front ≡ Some (address, rest)
    → heard_binaries (one_line at front size) ≡ (if may_begin_binary rest then (address, at) ∷ [] else [])
one-binary at front address rest size is =
    let place : ℕ × ℕ = (address, at) in
    ap (λ o. cons_option (option_and_then {U = ℕ × ℕ} (λ (led : ℕ × List ℕ). if may_begin_binary led.1 then Some (led.0, at) else None) o) []) is
    ∙ elim (may_begin_binary rest) as (λ b. cons_option (if b then Some place else None) [] ≡ (if b then place ∷ [] else [])) [ true ↦ refl | false ↦ refl ]

pub none-binary : (at : ℕ) (front : List ℕ) (size : ℕ) → led_of front ≡ None → heard_binaries (one_line at front size) ≡ []
none-binary at front size is =
    ap (λ o. cons_option (option_and_then {U = ℕ × ℕ} (λ (led : ℕ × List ℕ). if may_begin_binary led.1 then Some (led.0, at) else None) o) []) is

-- what is heard of the first line of a run, and of the others behind it
pub first-heard : (heard : CutLine → Option (ℕ × ℕ)) (old new : List (ℕ × ℕ)) (at : ℕ) (run : List ℕ) (n m : ℕ) → n ≤ length run → raw_lines run ≡ take n run ∷ raw_lines (drop n run) → m ≡ min n 17
    → new ≡ old ++ filter_map heard (one_line at (take m run) n) → new ++ filter_map heard (cut_lines 17 (at + n) (drop n run)) ≡ old ++ filter_map heard (cut_lines 17 at run)
first-heard heard old new at run n m within first few is =
    let line = take n run in
    let size : length line ≡ n = length-take-le n run within in
    let count : m ≡ min 17 (length line) = omega (arith, few, size) in
    let front : take m run ≡ take 17 line = sym (take-take m n run (omega (arith, few))) ∙ ap (λ k. take k line) count ∙ take_min 17 line in
    let others = cut_lines 17 (at + n) (drop n run) in
    ap (λ l. l ++ filter_map heard others) is ∙ append_assoc old (filter_map heard (one_line at (take m run) n)) (filter_map heard others)
    ∙ ap (λ l. old ++ l) (sym (filter_map-append heard (one_line at (take m run) n) others)
    ∙ ap (λ f. filter_map heard (one_line at f n ++ others)) front
    ∙ ap (λ k. filter_map heard (one_line at (take 17 line) k ++ cut_lines 17 (at + k) (drop n run))) (sym size)
    ∙ ap (λ l. filter_map heard (map (cut 17) (lines_from at l))) (sym first))

pub hears-lines : (old new : AddressSink) (lines : List CutLine) → TakesPlaces old new lines → Hears TakesPlaces old new lines
hears-lines old new lines is = record {
  later = λ first earlier before. record {
    taken =
        is.taken ∙ ap (λ l. l ++ heard_places lines) before.taken
        ∙ append_assoc first.lines.items (heard_places earlier) (heard_places lines)
        ∙ ap (λ l. first.lines.items ++ l) (sym (filter_map-append heard_place earlier lines));
    binaries =
        is.binaries ∙ ap (λ l. l ++ heard_binaries lines) before.binaries
        ∙ append_assoc first.binaries.items (heard_binaries earlier) (heard_binaries lines)
        ∙ ap (λ l. first.binaries.items ++ l) (sym (filter_map-append heard_binary earlier lines));
  };
}

-- it stopped for want of memory, whatever it had heard
pub stops-any : {V : Type 0} (old new : AddressSink) (lines : List CutLine) (result : Result V AllocError) → IfErr result (StopsAmong TakesPlaces (λ _ _ _ _. Unit {0}) old new lines)
stops-any old new lines (Ok x) = tt
stops-any old new lines (Err stop) = record { heard = []; rest = lines; parts = refl; stopped = record { later = λ first earlier heard. tt } }

-- ---- the table

same : (k n : ℕ) → is_eq (nat_cmp k n) ≡ (k == n)
same k n = by (cases_order k n)
  where
    by : (k ≡ n) ⊎ ((k < n) ⊎ (n < k)) → is_eq (nat_cmp k n) ≡ (k == n)
    by o = grind (arith, nat_tests)

found-same : (address : ℕ) (places : List (ℕ × ℕ)) → place_by nat_cmp address places ≡ place_with places address
found-same address [] = refl
found-same address (place ∷ places) =
    ap (λ b. option_map (λ (p : ℕ × ℕ). p.1) (cond b (Some place) (find (λ (p : ℕ × ℕ). is_eq (nat_cmp p.0 address)) places))) (same place.0 address)
    ∙ elim (place.0 == address) as (λ b. option_map (λ (p : ℕ × ℕ). p.1) (cond b (Some place) (find (λ (p : ℕ × ℕ). is_eq (nat_cmp p.0 address)) places))
    ≡ option_map (λ (p : ℕ × ℕ). p.1) (cond b (Some place) (find (λ (p : ℕ × ℕ). p.0 == address) places))) [
      | true ↦ refl
      | false ↦ found-same address places
    ]

pub table-is : (base : ℕ) (body : List ℕ) (lines places heard binaries : List (ℕ × ℕ)) (count : ℕ) → lines ≡ placed_lines base body
    → ((address : ℕ) → place_by nat_cmp address places ≡ place_by nat_cmp address lines)
    → ((address : ℕ) → IsSome (place_with (binary_lines base body) address) → IsSome (place_with heard address))
    → ((address : ℕ) → place_by nat_cmp address binaries ≡ place_by nat_cmp address heard) → count ≡ length lines
    → IsTableOf base body (record { places = places; binaries = binaries; count = count })
table-is base body lines places heard binaries count is sorted tells sorted_too counted = record {
  places = λ address. sorted address ∙ ap (place_by nat_cmp address) is ∙ found-same address (placed_lines base body);
  binaries = λ address some. ap is_some (sorted_too address ∙ found-same address heard) ∙ tells address some;
  count = counted ∙ ap length is;
}
