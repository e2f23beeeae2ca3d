-- A line that is read in pieces.
use Rattle.std.proofs.Common.{◌≡◌, ℕ, zero, suc, ◌+◌, ◌-◌, ◌<◌, ◌≤◌, List, [], ◌∷◌, ◌++◌, length, take, drop, length-drop, length-append, true, false, Some, slice_get, unwrap_or, refl, sym, ◌∙◌, ap, subst, append_assoc, append-nil, drop-drop, take-append-drop, arith}
use Rattle.std.specs.Prelude.{◌≢◌, All, nat_eq, slice_index, if◌then◌else◌}
use Rattle.std.specs.List.{between, ends_with}
use Rattle.std.proofs.lemmas.Bool.{eqb-true}
use Rattle.std.proofs.lemmas.Grind.{common_steps}
use Rattle.std.proofs.lemmas.List.{drop_all, get_or-take, length-take-le}
use Rattle.std.proofs.lemmas.List.Elements.{All-head, All-tail}
use Rattle.std.proofs.Math.Seq.{drop-append_seam, take-append-add, take-length}
use borrow.Rule.Slice.PartMut.{put_mid}
use Rattle.memchr.specs.Find.{Passes, is_byte, Nowhere}
use Rattle.dump_io.specs.Lines.{lf, cr, lines_after, raw_lines, text_of, HasLfLast, IsEnded}
use Rattle.dump_io.specs.Laws.LineFeeds.{lf_free}
use Rattle.dump_io.specs.Laws.Lines.{length-text_of, raw_lines-ended, raw_lines-inner}
use Rattle.dump_io.specs.Laws.Reads.{take-two}
use Rattle.heap_parts.specs.Inner.Pieces.{BeginsLine, IsFirstLine, IsCutAt}
use Rattle.body_lines.specs.Laws.{AreWhole-ended}
use Rattle.body_lines.specs.Lines.{AreWhole, HasNoLf}
use Rattle.heap_parts.specs.Places.{first_raw, ended_text}

after-first : (c : ℕ) (lines : List (List ℕ)) → unwrap_or (slice_get (lines_after c lines) 0) [] ≡ c ∷ unwrap_or (slice_get lines 0) []
after-first c [] = refl
after-first c (line ∷ lines) = refl

begins-free : (front : List ℕ) → HasNoLf front → (more : List ℕ) → first_raw (front ++ more) ≡ front ++ first_raw more
begins-free [] none more = refl
begins-free (c ∷ front) none more =
    ap (λ lines. unwrap_or (slice_get lines 0) []) (raw_lines-inner c (front ++ more) (All-head (λ b. b ≢ lf) c front none))
    ∙ after-first c (raw_lines (front ++ more)) ∙ ap (λ l. c ∷ l) (begins-free front (All-tail (λ b. b ≢ lf) c front none) more)

pub cut-some : (piece : List ℕ) (k : ℕ) → k < length piece → Nowhere (Passes (is_byte lf) piece) 0 k → Passes (is_byte lf) piece k → IsCutAt piece (Some (k + 1))
cut-some piece k fits none here =
    let line = take (k + 1) piece in
    let len : length line ≡ k + 1 = length-take-le (k + 1) piece (omega arith) in
    let last : length line - 1 ≡ k = omega (arith, len) in
    let front : take (length line - 1) line ≡ take k piece = ap (λ n. take n line) last ∙ grind (arith, common_steps) in
    let free : HasLfLast line = subst (λ l. All (λ c. c ≢ lf) l) (sym front) (lf_free piece k (omega arith) none) in
    let ended : IsEnded line = ap (λ n. slice_index line n) last ∙ get_or-take (k + 1) piece k 0 (omega arith) ∙ eqb-true _ _ here in
    (omega arith, omega (arith, fits), record { whole = λ more. ap (λ lines. unwrap_or (slice_get lines 0) []) (raw_lines-ended line more (omega (arith, len)) free ended) })

pub cut-none : (piece : List ℕ) → Nowhere (Passes (is_byte lf) piece) 0 (length piece) → BeginsLine piece
cut-none piece none = record { begins = begins-free piece (subst HasNoLf (take-length piece) (lf_free piece (length piece) (omega arith) none)) }

-- ---- from one place of the file to another

between-join : (i j k : ℕ) (xs : List ℕ) → i ≤ j → j ≤ k → between i j xs ++ between j k xs ≡ between i k xs
between-join i j k xs first second =
    let parts : k - i ≡ (j - i) + (k - j) = omega (arith, first, second) in
    let place : i + (j - i) ≡ j = omega (arith, first) in
    sym (
    ap (λ n. take n (drop i xs)) parts ∙ take-two (j - i) (k - j) (drop i xs)
    ∙ ap (λ l. take (j - i) (drop i xs) ++ take (k - j) l) (drop-drop (j - i) i xs ∙ ap (λ n. drop n xs) place)
    )

-- what stands from a place on becomes what was read
pub filled-behind : (from at : ℕ) (bytes into dump : List ℕ) → from ≤ length bytes → length into ≡ length bytes - from → into ≡ take (length into) (drop at dump)
    → put_mid from (length bytes - from) bytes into ≡ take from bytes ++ between at (at + (length bytes - from)) dump
filled-behind from at bytes into dump inside size is =
    let none : drop (length bytes - from) (drop from bytes) ≡ [] = drop_all (length bytes - from) (drop from bytes) (omega (arith, length-drop from bytes)) in
    let count : length into ≡ at + (length bytes - from) - at = omega (arith, size) in
    ap (λ l. take from bytes ++ (into ++ l)) none ∙ ap (λ l. take from bytes ++ l) (append-nil into ∙ is ∙ ap (λ n. take n (drop at dump)) count)

-- what was appended stands behind what was there
pub piece-behind : (lines grown bytes piece : List ℕ) (kept : ℕ) → kept ≡ length lines → bytes ≡ grown → grown ≡ lines ++ piece → drop kept bytes ≡ piece
piece-behind lines grown bytes piece kept is same pushed = ap (drop kept) (same ∙ pushed) ∙ ap (λ n. drop n (lines ++ piece)) is ∙ drop-append_seam lines piece

-- what was read so far
pub record HasRead (old lines front : List ℕ) : Type 0 where
  pub lines_are : lines ≡ old ++ front
  pub begins : BeginsLine front

pub read-start : (from : ℕ) (lines dump : List ℕ) → HasRead lines lines (between from from dump)
read-start from lines dump =
    let none : from - from ≡ 0 = omega arith in
    let empty : between from from dump ≡ [] = ap (λ n. take n (drop from dump)) none in
    record {
      lines_are = sym (append-nil lines) ∙ ap (λ l. lines ++ l) (sym empty);
      begins = subst BeginsLine (sym empty) (record { begins = λ more. refl });
    }

pub read-more : (old lines later piece dump : List ℕ) (from at n : ℕ) → from ≤ at → HasRead old lines (between from at dump) → piece ≡ between at (at + n) dump → BeginsLine piece → later ≡ lines ++ piece
    → HasRead old later (between from (at + n) dump)
read-more old lines later piece dump from at n order so_far is begins pushed =
    let front = between from at dump in
    let joined : front ++ piece ≡ between from (at + n) dump = ap (λ l. front ++ l) is ∙ between-join from at (at + n) dump order (omega arith) in
    record {
      lines_are = pushed ∙ ap (λ l. l ++ piece) so_far.lines_are ∙ append_assoc old front piece ∙ ap (λ l. old ++ l) joined;
      begins = subst BeginsLine joined (record {
        begins = λ more.
            ap first_raw (append_assoc front piece more) ∙ so_far.begins.begins (piece ++ more) ∙ ap (λ l. front ++ l) (begins.begins more) ∙ sym (append_assoc front piece (first_raw more));
      });
    }

-- the bytes end with the line
pub read-end : (old lines dump : List ℕ) (from at upto : ℕ) → at ≡ upto → HasRead old lines (between from at dump) → lines ≡ old ++ first_raw (between from upto dump)
read-end old lines dump from at upto is so_far =
    let front = between from at dump in
    let all : front ≡ first_raw front = sym (append-nil front) ∙ sym (so_far.begins.begins []) ∙ ap first_raw (append-nil front) in
    so_far.lines_are ∙ ap (λ l. old ++ l) all ∙ ap (λ n. old ++ first_raw (between from n dump)) is

-- the line ends in this piece
pub read-line : (old lines later piece dump : List ℕ) (from at n upto end : ℕ) → from ≤ at → at + n ≤ upto → HasRead old lines (between from at dump) → piece ≡ between at (at + n) dump
    → IsFirstLine (take end piece) → later ≡ lines ++ take end piece → later ≡ old ++ first_raw (between from upto dump)
read-line old lines later piece dump from at n upto end order inside so_far is line pushed =
    let front = between from at dump in
    let rest = between (at + n) upto dump in
    let cut = take end piece in
    let body : between from upto dump ≡ front ++ (cut ++ (drop end piece ++ rest)) =
    sym (between-join from at upto dump order (omega (arith, inside)))
    ∙ ap (λ l. front ++ l) (sym (between-join at (at + n) upto dump (omega arith) inside) ∙ ap (λ l. l ++ rest) (sym is) ∙ ap (λ l. l ++ rest) (sym (take-append-drop end piece)) ∙ append_assoc cut (drop end piece) rest) in
    let first : first_raw (between from upto dump) ≡ front ++ cut =
    ap first_raw body ∙ so_far.begins.begins (cut ++ (drop end piece ++ rest)) ∙ ap (λ l. front ++ l) (line.whole (drop end piece ++ rest)) in
    pushed ∙ ap (λ l. l ++ cut) so_far.lines_are ∙ append_assoc old front cut ∙ ap (λ l. old ++ l) (sym first)

-- ---- the text of a line that was read

pub text-within : (start : ℕ) (lines : List ℕ) → start ≤ length lines → start + length (text_of (drop start lines)) ≤ length lines
text-within start lines inside = omega (arith, length-text_of (drop start lines), length-drop start lines, inside)

take-own : (n : ℕ) (xs : List ℕ) → take (length (take n xs)) xs ≡ take n xs
take-own zero xs = refl
take-own (suc n) [] = refl
take-own (suc n) (x ∷ xs) = ap (λ l. x ∷ l) (take-own n xs)

-- a text is a front of its line
text-front : (raw : List ℕ) → take (length (text_of raw)) raw ≡ text_of raw
text-front raw =
    elim (ends_with nat_eq raw (cr ∷ lf ∷ [])) as (λ b.
    let text = if b then take (length raw - 2) raw else (if ends_with nat_eq raw (lf ∷ []) then take (length raw - 1) raw else raw) in take (length text) raw ≡ text) [
      | true ↦ take-own (length raw - 2) raw
      | false ↦ elim (ends_with nat_eq raw (lf ∷ [])) as (λ b. let text = if b then take (length raw - 1) raw else raw in take (length text) raw ≡ text) [ true ↦ take-own (length raw - 1) raw | false ↦ take-length raw ]
    ]

-- what stands behind the line's text is cut off
pub text-cut : (old lines raw kept last : List ℕ) (len : ℕ) → lines ≡ old ++ raw → len ≡ length (text_of (drop (length old) lines)) → kept ≡ take (length old + len) lines → last ≡ kept ++ (cr ∷ lf ∷ [])
    → last ≡ old ++ ended_text (text_of raw)
text-cut old lines raw kept last len is count cut pushed =
    let behind : drop (length old) lines ≡ raw = ap (drop (length old)) is ∙ drop-append_seam old raw in
    let size : len ≡ length (text_of raw) = count ∙ ap (λ l. length (text_of l)) behind in
    let front : kept ≡ old ++ text_of raw =
    cut ∙ ap (take (length old + len)) is ∙ take-append-add old raw len ∙ ap (λ n. old ++ take n raw) size ∙ ap (λ l. old ++ l) (text-front raw) in
    pushed ∙ ap (λ l. l ++ (cr ∷ lf ∷ [])) front ∙ append_assoc old (text_of raw) (cr ∷ lf ∷ [])

-- CR and LF are appended at least
pub longer-cut : (old lines kept last : List ℕ) (upto : ℕ) → length old ≤ upto → upto ≤ length lines → kept ≡ take upto lines → last ≡ kept ++ (cr ∷ lf ∷ []) → length old + 2 ≤ length last
longer-cut old lines kept last upto least within cut pushed =
    omega (arith, least, ap length pushed, length-append kept (cr ∷ lf ∷ []), ap length cut, length-take-le upto lines within)

-- what ends in LF is whole lines
pub whole-cut : (kept last : List ℕ) → last ≡ kept ++ (cr ∷ lf ∷ []) → AreWhole last
whole-cut kept last pushed = subst AreWhole (append_assoc kept (cr ∷ []) (lf ∷ []) ∙ sym pushed) (AreWhole-ended (kept ++ cr ∷ []))
