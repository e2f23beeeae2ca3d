-- Bytes that are copied in two parts, and a line that is made blank.
use Rattle.std.proofs.Common.{◌≡◌, ℕ, ◌<◌, ◌≤◌, List, length, take, sym, ◌∙◌, arith, ◌+◌, ◌-◌, ◌==◌, true, false, [], ◌∷◌, ◌++◌, drop, map, replicate, if◌then◌else◌, refl, ap, ap₂, subst}
use Rattle.std.specs.Prelude.{◌≢◌, All}
use Rattle.std.specs.List.{between, list_all}
use Rattle.std.proofs.lemmas.Bool.{ne_eqb, eqb-true, and_from, and_parts, false≢true}
use Rattle.std.proofs.lemmas.List.{drop-drop, drop_more, take-append-drop}
use Rattle.std.proofs.lemmas.List.Elements.{All-from_get_or, All-head, All-tail}
use Rattle.std.proofs.lemmas.List.Folds.{list_all-append, list_all_at}
use Rattle.std.proofs.Math.Seq.{take-length}
use Rattle.memchr.specs.Find.{Passes, is_byte, Nowhere}
use Rattle.dump_io.specs.Lines.{lf}
use Rattle.dump_io.specs.Laws.Reads.{take-two}
use Rattle.binary_payloads.specs.declared.enc.Enc.{Enc}
use Rattle.binary_payloads.specs.declared.enc.Enc.TheVariants.{Hex, Base64}
use Rattle.binary_payloads.specs.Payload.{is_digit_of}
use Rattle.dump_redact.specs.declared.blanks.Stretch.{Stretch}
use Rattle.dump_redact.specs.declared.blanks.Stretch.TheVariants.{Plain, Payload}
use Rattle.dump_redact.specs.Redacted.{blank, zero_of}
use Rattle.dump_redact.specs.Inner.Copying.{blank_line, copied, stretch_behind}
use Rattle.dump_io.specs.Laws.LineFeeds.{lf_free}

-- ---- bytes that are copied in two parts

-- ---- parts of bytes between two offsets

pub between-join : (xs : List ℕ) (from at upto : ℕ) → from ≤ at → at ≤ upto → between from at xs ++ between at upto xs ≡ between from upto xs
between-join xs from at upto low high =
    let place : from + (at - from) ≡ at = omega (arith, low) in
    let count : (at - from) + (upto - at) ≡ upto - from = omega (arith, low, high) in
    ap (λ k. between from at xs ++ take (upto - at) (drop k xs)) (sym place)
    ∙ ap (λ l. between from at xs ++ take (upto - at) l) (sym (drop-drop (at - from) from xs))
    ∙ sym (take-two (at - from) (upto - at) (drop from xs))
    ∙ ap (λ n. take n (drop from xs)) count

-- ---- a line that is made blank

blank-append : (enc : Enc) (xs ys : List ℕ) → blank_line enc (xs ++ ys) ≡ blank_line enc xs ++ copied (stretch_behind (Payload enc) xs) ys
blank-append enc [] ys = refl
blank-append enc (c ∷ xs) ys =
    elim (c == lf) as (λ b. (if b then c ∷ (xs ++ ys) else blank enc c ∷ blank_line enc (xs ++ ys))
    ≡ (if b then c ∷ xs else blank enc c ∷ blank_line enc xs) ++ copied (if b then Plain else stretch_behind (Payload enc) xs) ys)
    [ true ↦ refl | false ↦ ap (λ l. blank enc c ∷ l) (blank-append enc xs ys) ]

pub copied-append : (stretch : Stretch) (xs ys : List ℕ) → copied stretch (xs ++ ys) ≡ copied stretch xs ++ copied (stretch_behind stretch xs) ys
copied-append Plain xs ys = refl
copied-append (Payload enc) xs ys = blank-append enc xs ys

pub behind-append : (stretch : Stretch) (xs ys : List ℕ) → stretch_behind stretch (xs ++ ys) ≡ stretch_behind (stretch_behind stretch xs) ys
behind-append Plain xs ys = refl
behind-append (Payload enc) [] ys = refl
behind-append (Payload enc) (c ∷ xs) ys =
    elim (c == lf) as (λ b. (if b then Plain else stretch_behind (Payload enc) (xs ++ ys)) ≡ stretch_behind (if b then Plain else stretch_behind (Payload enc) xs) ys)
    [ true ↦ refl | false ↦ behind-append (Payload enc) xs ys ]

-- bytes without an LF
pub blank-free : (enc : Enc) (xs : List ℕ) → All (λ c. c ≢ lf) xs → blank_line enc xs ≡ map (blank enc) xs
blank-free enc [] free = refl
blank-free enc (c ∷ xs) free =
    ap (λ b. if b then c ∷ xs else blank enc c ∷ blank_line enc xs) (ne_eqb c lf (All-head (λ c. c ≢ lf) c xs free))
    ∙ ap (λ l. blank enc c ∷ l) (blank-free enc xs (All-tail (λ c. c ≢ lf) c xs free))

pub behind-free : (enc : Enc) (xs : List ℕ) → All (λ c. c ≢ lf) xs → stretch_behind (Payload enc) xs ≡ Payload enc
behind-free enc [] free = refl
behind-free enc (c ∷ xs) free =
    ap (λ b. if b then Plain else stretch_behind (Payload enc) xs) (ne_eqb c lf (All-head (λ c. c ≢ lf) c xs free))
    ∙ behind-free enc xs (All-tail (λ c. c ≢ lf) c xs free)

-- bytes with their first LF behind some without one
pub blank-ended : (enc : Enc) (xs ys : List ℕ) → All (λ c. c ≢ lf) xs → blank_line enc (xs ++ lf ∷ ys) ≡ map (blank enc) xs ++ lf ∷ ys
blank-ended enc xs ys free =
    blank-append enc xs (lf ∷ ys)
    ∙ ap (λ s. blank_line enc xs ++ copied s (lf ∷ ys)) (behind-free enc xs free)
    ∙ ap (λ l. l ++ lf ∷ ys) (blank-free enc xs free)

pub behind-ended : (enc : Enc) (xs ys : List ℕ) → All (λ c. c ≢ lf) xs → stretch_behind (Payload enc) (xs ++ lf ∷ ys) ≡ Plain
behind-ended enc xs ys free =
    behind-append (Payload enc) xs (lf ∷ ys) ∙ ap (λ s. stretch_behind s (lf ∷ ys)) (behind-free enc xs free)

-- ---- bytes between two offsets, copied up to one within them

module _ (first next : Stretch) (dump : List ℕ) (from at upto : ℕ) (low : from ≤ at) (high : at ≤ upto) (is : next ≡ stretch_behind first (between from at dump)) where
  pub copied-join : copied first (between from at dump) ++ copied next (between at upto dump) ≡ copied first (between from upto dump)
  copied-join =
      ap (λ s. copied first (between from at dump) ++ copied s (between at upto dump)) is
      ∙ sym (copied-append first (between from at dump) (between at upto dump))
      ∙ ap (copied first) (between-join dump from at upto low high)

  pub behind-join : stretch_behind next (between at upto dump) ≡ stretch_behind first (between from upto dump)
  behind-join =
      ap (λ s. stretch_behind s (between at upto dump)) is
      ∙ sym (behind-append first (between from at dump) (between at upto dump))
      ∙ ap (stretch_behind first) (between-join dump from at upto low high)

-- ---- a line that is made blank, by the place of its LF

module _ (enc : Enc) (chars : List ℕ) (k : ℕ) (fits : k < length chars) (none : Nowhere (Passes (is_byte lf) chars) 0 k) (here : Passes (is_byte lf) chars k) where
  -- the bytes before the LF, and those from it on
  parts : chars ≡ take k chars ++ lf ∷ drop (k + 1) chars
  parts =
      let at : drop k chars ≡ lf ∷ drop (k + 1) chars =
      drop_more chars k 0 fits ∙ ap (λ c. c ∷ drop (k + 1) chars) (eqb-true _ _ here) in
      sym (take-append-drop k chars) ∙ ap (λ l. take k chars ++ l) at

  free : All (λ c. c ≢ lf) (take k chars)
  free = lf_free chars k (omega (arith, fits)) none

  pub ended-text : map (blank enc) (take k chars) ++ drop k chars ≡ blank_line enc chars
  ended-text =
      let at : drop k chars ≡ lf ∷ drop (k + 1) chars =
      drop_more chars k 0 fits ∙ ap (λ c. c ∷ drop (k + 1) chars) (eqb-true _ _ here) in
      ap (λ l. map (blank enc) (take k chars) ++ l) at
      ∙ sym (blank-ended enc (take k chars) (drop (k + 1) chars) free)
      ∙ ap (blank_line enc) (sym parts)

  pub ended-behind : Plain ≡ stretch_behind (Payload enc) chars
  ended-behind = sym (behind-ended enc (take k chars) (drop (k + 1) chars) free) ∙ ap (stretch_behind (Payload enc)) (sym parts)

module _ (enc : Enc) (chars : List ℕ) (none : Nowhere (Passes (is_byte lf) chars) 0 (length chars)) where
  all-free : All (λ c. c ≢ lf) chars
  all-free = subst (λ l. All (λ c. c ≢ lf) l) (take-length chars) (lf_free chars (length chars) (omega arith) none)

  pub open-text : map (blank enc) chars ≡ blank_line enc chars
  open-text = sym (blank-free enc chars all-free)

  pub open-behind : Payload enc ≡ stretch_behind (Payload enc) chars
  open-behind = sym (behind-free enc chars all-free)

-- ---- digits that are made blank

no-digit : (enc : Enc) → is_digit_of enc lf ≡ false
no-digit Hex = refl
no-digit Base64 = refl

digits-free : (enc : Enc) (xs : List ℕ) → list_all (is_digit_of enc) xs ≡ true → All (λ c. c ≢ lf) xs
digits-free enc xs digits =
    All-from_get_or (λ c. c ≢ lf) xs 0 (λ i inside same.
    false≢true (sym (list_all_at (is_digit_of enc) xs i 0 inside (ap (is_digit_of enc) same ∙ no-digit enc)) ∙ digits))

-- digits at the beginning, and digits from a place among them on
pub digits-joined : (enc : Enc) (chars : List ℕ) (len from more : ℕ) → from ≤ len → list_all (is_digit_of enc) (take len chars) ≡ true
    → list_all (is_digit_of enc) (take more (drop from chars)) ≡ true → list_all (is_digit_of enc) (take (from + more) chars) ≡ true
digits-joined enc chars len from more among digits behind =
    let is_digit = is_digit_of enc in
    let front = take from chars in
    let rest = take (len - from) (drop from chars) in
    let count : from + (len - from) ≡ len = omega (arith, among) in
    let all : list_all is_digit (front ++ rest) ≡ true = ap (list_all is_digit) (sym (take-two from (len - from) chars) ∙ ap (λ n. take n chars) count) ∙ digits in
    let parts = and_parts (list_all is_digit front) (list_all is_digit rest) (sym (list_all-append is_digit front rest) ∙ all) in
    ap (list_all is_digit) (take-two from more chars) ∙ list_all-append is_digit front (take more (drop from chars)) ∙ and_from _ _ parts.0 behind

-- each becomes the same character
pub digits-zero : (enc : Enc) (xs : List ℕ) → list_all (is_digit_of enc) xs ≡ true → replicate (length xs) (zero_of enc) ≡ map (blank enc) xs
digits-zero enc [] digits = refl
digits-zero enc (c ∷ xs) digits =
    let parts = and_parts (is_digit_of enc c) (list_all (is_digit_of enc) xs) digits in
    ap₂ (λ x l. x ∷ l) (sym (ap (λ b. if b then zero_of enc else c) parts.0)) (digits-zero enc xs parts.1)

module _ (enc : Enc) (chars : List ℕ) (n : ℕ) (digits : list_all (is_digit_of enc) (take n chars) ≡ true) where
  -- no digit is an LF, so the bytes behind digits stand in the same stretch
  behind-digits : stretch_behind (Payload enc) (take n chars) ≡ Payload enc
  behind-digits = behind-free enc (take n chars) (digits-free enc (take n chars) digits)

  pub digits-text : map (blank enc) (take n chars) ++ copied (Payload enc) (drop n chars) ≡ copied (Payload enc) chars
  digits-text =
      ap (λ l. l ++ copied (Payload enc) (drop n chars)) (sym (blank-free enc (take n chars) (digits-free enc (take n chars) digits)))
      ∙ ap (λ s. copied (Payload enc) (take n chars) ++ copied s (drop n chars)) (sym behind-digits)
      ∙ sym (copied-append (Payload enc) (take n chars) (drop n chars))
      ∙ ap (copied (Payload enc)) (take-append-drop n chars)

  pub digits-behind : stretch_behind (Payload enc) (drop n chars) ≡ stretch_behind (Payload enc) chars
  digits-behind =
      ap (λ s. stretch_behind s (drop n chars)) (sym behind-digits)
      ∙ sym (behind-append (Payload enc) (take n chars) (drop n chars))
      ∙ ap (stretch_behind (Payload enc)) (take-append-drop n chars)
