-- Lines of a heap: those in which `:Yh` doesn't stand have no payload.
use Rattle.std.proofs.Common.{◌≡◌, ℕ, ◌+◌, ◌-◌, ◌<◌, ◌≤◌, Bool, true, false, List, ◌++◌, length, drop, refl, ◌∙◌, ap, arith, nat_lt, ◌∷◌, take, map, sym, append_assoc, ◌==◌, [], Option, Some, None, if◌then◌else◌, ap₂, subst, append-nil, length-append}
use Rattle.std.specs.Prelude.{codes, slice_index}
use Rattle.std.specs.List.{concat}
use Rattle.std.proofs.lemmas.Bool.{eq-eqb, ltb-true, ltb-false}
use Rattle.std.proofs.lemmas.List.{get_or-drop, get_or-append-add, drop-drop, length-take-le, length-drop, length-take, map-append, take_all, drop_all, take-take, take-append-drop}
use Rattle.std.proofs.lemmas.Slice.{take-put_mid, drop-put_mid}
use Rattle.std.proofs.lemmas.List.Folds.{concat-append}
use Rattle.memchr.specs.Find.{Passes, is_byte, Nowhere}
use borrow.Rule.Slice.PartMut.{put_mid, mid_of, same_len_mid}
use Rattle.dump_io.specs.Lines.{raw_lines, text_of, lf, lines_after, IsEnded}
use Rattle.binary_payloads.specs.declared.enc.Enc.{Enc}
use Rattle.dump_io.specs.Laws.Lines.{AreLines-raw, IsEnded-tail}
use Rattle.dump_io.specs.Laws.Reads.{take-two}
use Rattle.dump_redact.specs.Inner.Places.{AreMarksFrom}
use Rattle.dump_redact.specs.declared.parts.Part.TheVariants.{Heap}
use Rattle.dump_redact.specs.Redacted.{payload_in, without, blanked_line}
use Rattle.dump_redact.specs.Bodies.{redacted_body}
use Rattle.dump_redact.proofs.Alike.{Alike-length, without-alike, kept, text-kept}
use Rattle.dump_redact.proofs.Places.{LedIsRead, FormIsRead, marked}

-- none has its `Y` where that letter doesn't stand
pub without-letter : (at n : ℕ) (bytes : List ℕ) → Nowhere (Passes (is_byte 89) (drop at bytes)) 0 n → AreMarksFrom at bytes → AreMarksFrom (at + n) bytes
without-letter at n bytes none marks front more is = by (nat_lt (length front + 1) (at + n)) refl
  where
    by : (b : Bool) → nat_lt (length front + 1) (at + n) ≡ b → at + n ≤ length front + 1
    by false e = ltb-false (length front + 1) (at + n) e
    by true e =
        let less : length front + 1 < at + n = ltb-true (length front + 1) (at + n) e in
        let low : at ≤ length front + 1 = marks front more is in
        let k = length front + 1 - at in
        let back : at + k ≡ length front + 1 = omega (arith, low) in
        let there : slice_index (drop at bytes) k ≡ 89 =
        get_or-drop at bytes k 0
        ∙ ap (λ i. slice_index bytes i) back
        ∙ ap (λ l. slice_index l (length front + 1)) is
        ∙ get_or-append-add front (codes ":Yh" ++ more) 1 0 in
        absurd (none k (omega arith) (omega (arith, less, low)) (eq-eqb _ _ there))

-- ---- one turn of the loop over the lines of a body

-- the lines up to a place are redacted, and those behind it stay
pub record IsDone (enc : Enc) (at : ℕ) (old now : List ℕ) : Type 0 where
  pub within : at ≤ length now
  pub same_length : length now ≡ length old
  pub stays : drop at now ≡ drop at old
  pub done : take at now ++ redacted_body enc Heap (drop at old) ≡ redacted_body enc Heap old

pub line-length : (enc : Enc) (raw : List ℕ) → length (blanked_line enc Heap raw) ≡ length raw
line-length enc raw = Alike-length (blanked_line enc Heap raw) raw (without-alike enc raw (payload_in enc Heap (text_of raw)))

pub one-line : (enc : Enc) (at len k : ℕ) (old now line : List ℕ) → IsDone enc at old now → k ≡ len → len ≤ length (drop at now)
    → raw_lines (drop at now) ≡ take len (drop at now) ∷ raw_lines (drop len (drop at now))
    → line ≡ blanked_line enc Heap (take len (drop at now)) → IsDone enc (at + len) old (put_mid at k now line)
one-line enc at len k old now line before e fits first is =
    let rest = drop at now in
    let long : length line ≡ len = ap length is ∙ line-length enc (take len rest) ∙ length-take-le len rest fits in
    let room : length rest ≡ length now - at = length-drop at now in
    let middle : length (mid_of at k now) ≡ k = length-take-le k rest (omega (arith, e, fits)) in
    let new = put_mid at k now line in
    let count : length new ≡ length now = same_len_mid at k now line (omega (arith, long, e, middle)) in
    let after : drop (at + len) new ≡ drop (at + len) now = drop-put_mid at k now line (at + len) (omega (arith, e)) before.within (omega (arith, long, e)) in
    let tail : (xs : List ℕ) → drop len (drop at xs) ≡ drop (at + len) xs = λ xs. drop-drop len at xs in
    let behind : drop (at + len) now ≡ drop (at + len) old = sym (tail now) ∙ ap (drop len) before.stays ∙ tail old in
    let front : take (at + len) new ≡ take at now ++ line = take-put_mid at k now line (at + len) (omega (arith, long)) before.within in
    let lines : redacted_body enc Heap (drop at old) ≡ line ++ redacted_body enc Heap (drop (at + len) old) =
    ap (redacted_body enc Heap) (sym before.stays)
    ∙ ap (λ raws. concat (map (blanked_line enc Heap) raws)) first
    ∙ ap (λ l. l ++ redacted_body enc Heap (drop len rest)) (sym is)
    ∙ ap (λ l. line ++ redacted_body enc Heap l) (tail now ∙ behind) in
    record {
      within = omega (arith, count, before.within, room, fits);
      same_length = count ∙ before.same_length;
      stays = after ∙ behind;
      done =
          ap (λ l. l ++ redacted_body enc Heap (drop (at + len) old)) front
          ∙ append_assoc (take at now) line (redacted_body enc Heap (drop (at + len) old))
          ∙ ap (λ l. take at now ++ l) (sym lines)
          ∙ before.done;
    }

-- ---- lines in which `:Yh` doesn't stand have no payload

-- no `:Yh` stands in the text
abbrev pub IsFree : List ℕ → Type 0
IsFree text = (front more : List ℕ) → text ≡ front ++ (codes ":Yh" ++ more) → ⊥

free-left : (xs ys : List ℕ) → IsFree (xs ++ ys) → IsFree xs
free-left xs ys free front more is = free front (more ++ ys) (ap (λ l. l ++ ys) is ∙ append_assoc front (codes ":Yh" ++ more) ys)

free-right : (xs ys : List ℕ) → IsFree (xs ++ ys) → IsFree ys
free-right xs ys free front more is = free (xs ++ front) more (ap (λ l. xs ++ l) is ∙ sym (append_assoc xs front (codes ":Yh" ++ more)))

free-take : (n : ℕ) (xs : List ℕ) → IsFree xs → IsFree (take n xs)
free-take n xs free = free-left (take n xs) (drop n xs) (subst IsFree (sym (take-append-drop n xs)) free)

-- none stands before the first of a text
pub free-before : (place : ℕ) (bytes : List ℕ) → AreMarksFrom place bytes → IsFree (take place bytes)
free-before place bytes marks front more is =
    let rest = drop place bytes in
    let whole : bytes ≡ front ++ (codes ":Yh" ++ (more ++ rest)) = sym (take-append-drop place bytes) ∙ ap (λ l. l ++ rest) is ∙ append_assoc front (codes ":Yh" ++ more) rest in
    omega (arith, marks front (more ++ rest) whole, length-take place bytes, ap length is, length-append front (codes ":Yh" ++ more))

module _ (law : LedIsRead) (enc : Enc) (forms : FormIsRead enc) where
  -- a line without it stays
  plain-line : (raw : List ℕ) → IsFree raw → blanked_line enc Heap raw ≡ raw
  plain-line raw free = by (payload_in enc Heap (text_of raw)) refl
    where
      by : (o : Option (List ℕ)) → payload_in enc Heap (text_of raw) ≡ o → without enc raw o ≡ raw
      by None is = refl
      by (Some chars) is =
          let letter = marked law enc forms (text_of raw) chars is in
          let text : IsFree (text_of raw) = subst IsFree (sym (text-kept raw)) (free-take (kept raw) raw free) in
          absurd (text letter.0 letter.1 letter.2)

  plain-lines : (raws : List (List ℕ)) → IsFree (concat raws) → map (blanked_line enc Heap) raws ≡ raws
  plain-lines [] free = refl
  plain-lines (raw ∷ raws) free =
      ap₂ (λ l ls. l ∷ ls) (plain-line raw (free-left raw (concat raws) free)) (plain-lines raws (free-right raw (concat raws) free))

  -- and so do bytes without it
  plain-bytes : (bytes : List ℕ) → IsFree bytes → redacted_body enc Heap bytes ≡ bytes
  plain-bytes bytes free =
      let all = (AreLines-raw bytes).together in
      ap concat (plain-lines (raw_lines bytes) (subst IsFree (sym all) free)) ∙ all

-- ---- the lines of bytes in front of others are lines of their own where they end in LF

after-append : (c : ℕ) (lines more : List (List ℕ)) → 0 < length lines → lines_after c (lines ++ more) ≡ lines_after c lines ++ more
after-append c [] more some = absurd (omega (arith, some))
after-append c (line ∷ lines) more some = refl

some-lines : (c : ℕ) (bytes : List ℕ) → 0 < length (raw_lines (c ∷ bytes))
some-lines c bytes = by (c == lf) (raw_lines bytes)
  where
    by : (b : Bool) (lines : List (List ℕ)) → 0 < length (if b then (c ∷ []) ∷ lines else lines_after c lines)
    by true lines = omega arith
    by false [] = omega arith
    by false (line ∷ lines) = omega arith

lines-front : (front rest : List ℕ) → (0 < length front → IsEnded front) → raw_lines (front ++ rest) ≡ raw_lines front ++ raw_lines rest
lines-front [] rest ended = refl
lines-front (c ∷ []) rest ended =
    let last : c ≡ lf = ended (omega arith) in
    ap (λ d. if d == lf then (c ∷ []) ∷ raw_lines rest else lines_after c (raw_lines rest)) last
    ∙ sym (ap (λ d. (if d == lf then (c ∷ []) ∷ [] else lines_after c []) ++ raw_lines rest) last)
lines-front (c ∷ d ∷ front) rest ended =
    let lines = raw_lines (d ∷ front) in
    let more = raw_lines rest in
    let again : raw_lines ((d ∷ front) ++ rest) ≡ lines ++ more = lines-front (d ∷ front) rest (λ some. IsEnded-tail c d front (ended (omega arith))) in
    ap (λ ls. if c == lf then (c ∷ []) ∷ ls else lines_after c ls) again
    ∙ elim (c == lf) as (λ b. (if b then (c ∷ []) ∷ (lines ++ more) else lines_after c (lines ++ more)) ≡ (if b then (c ∷ []) ∷ lines else lines_after c lines) ++ more)
    [ true ↦ refl | false ↦ after-append c lines more (some-lines d front) ]

-- ---- a body whose first lines have no payload

module _ (law : LedIsRead) (enc : Enc) (forms : FormIsRead enc) (bytes : List ℕ) where
  -- lines in front of a place up to which it doesn't stand
  pub plain-front : (place n : ℕ) → IsFree (take place bytes) → n ≤ length (take place bytes) → (0 < n → IsEnded (take n (take place bytes)))
      → redacted_body enc Heap bytes ≡ take n bytes ++ redacted_body enc Heap (drop n bytes)
  plain-front place n free within ended =
      let front = take n bytes in
      let rest = drop n bytes in
      let size : length (take place bytes) ≤ place = omega (arith, length-take place bytes) in
      let all : length (take place bytes) ≤ length bytes = omega (arith, length-take place bytes) in
      let same : take n (take place bytes) ≡ front = take-take n place bytes (omega (arith, within, size)) in
      let long : length front ≡ n = length-take-le n bytes (omega (arith, within, all)) in
      let own : IsFree front = subst IsFree same (free-take n (take place bytes) free) in
      let last : 0 < length front → IsEnded front = λ some. subst IsEnded same (ended (omega (arith, some, long))) in
      ap (redacted_body enc Heap) (sym (take-append-drop n bytes))
      ∙ ap (λ ls. concat (map (blanked_line enc Heap) ls)) (lines-front front rest last)
      ∙ ap concat (map-append (blanked_line enc Heap) (raw_lines front) (raw_lines rest))
      ∙ concat-append (map (blanked_line enc Heap) (raw_lines front)) (map (blanked_line enc Heap) (raw_lines rest))
      ∙ ap (λ l. l ++ redacted_body enc Heap rest) (plain-bytes law enc forms front own)

  pub plain-all : (n : ℕ) → n ≡ length bytes → IsFree (take n bytes) → redacted_body enc Heap bytes ≡ take n bytes ++ redacted_body enc Heap (drop n bytes)
  plain-all n is free =
      let all : take n bytes ≡ bytes = take_all n bytes (omega (arith, is)) in
      let none : drop n bytes ≡ [] = drop_all n bytes (omega (arith, is)) in
      plain-bytes law enc forms bytes (subst IsFree all free)
      ∙ sym (append-nil bytes)
      ∙ sym (ap₂ (λ l r. l ++ redacted_body enc Heap r) all none)

-- ---- such lines are passed over

pub passed : (enc : Enc) (at n : ℕ) (old now : List ℕ) → IsDone enc at old now → n ≤ length (drop at now)
    → redacted_body enc Heap (drop at now) ≡ take n (drop at now) ++ redacted_body enc Heap (drop n (drop at now)) → IsDone enc (at + n) old now
passed enc at n old now before fits plain =
    let rest = drop at now in
    let tail : (xs : List ℕ) → drop n (drop at xs) ≡ drop (at + n) xs = λ xs. drop-drop n at xs in
    let behind : drop (at + n) now ≡ drop (at + n) old = sym (tail now) ∙ ap (drop n) before.stays ∙ tail old in
    record {
      within = omega (arith, before.within, fits, length-drop at now);
      same_length = before.same_length;
      stays = behind;
      done =
          ap₂ (λ l r. l ++ redacted_body enc Heap r) (take-two at n now) (sym behind ∙ sym (tail now))
          ∙ append_assoc (take at now) (take n rest) (redacted_body enc Heap (drop n rest))
          ∙ ap (λ l. take at now ++ l) (sym plain ∙ ap (redacted_body enc Heap) before.stays)
          ∙ before.done;
    }
