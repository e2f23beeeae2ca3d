-- A text with LF behind it is one line, which reads as the text.
use Rattle.std.proofs.Common.{◌≡◌, ℕ, suc, ◌-◌, ◌≤◌, ◌==◌, true, false, List, [], ◌∷◌, ◌++◌, length, take, drop, if◌then◌else◌, refl, sym, ◌∙◌, ap, subst, append_assoc, arith, length-append, inl, inr}
use Rattle.std.specs.Prelude.{not, nat_eq}
use Rattle.std.specs.Cmp.Lexicographic.{pointwise}
use Rattle.std.specs.List.{ends_with}
use Rattle.std.proofs.lemmas.Bool.{and_parts, not-true}
use Rattle.std.proofs.lemmas.List.{take_at, drop_at}
use Rattle.dump_io.specs.Lines.{lf, cr, lines_after, raw_lines, text_of, is_header}
use Rattle.line_source.specs.Streams.{has_lf, begins_with_equals}
use Rattle.dump_write.specs.Written.{lacks, is_line_text, line, AreWholeLines, IsOneLine}
use Rattle.dump_io.specs.Laws.Lines.{IsEnded-tail}

-- a text and LF in front of bytes are the first of their lines
raw_lines-text : (text more : List ℕ) → lacks lf text ≡ true → raw_lines (text ++ lf ∷ more) ≡ line text ∷ raw_lines more
raw_lines-text [] more none = refl
raw_lines-text (c ∷ text) more none =
    let parts = and_parts (not (c == lf)) (lacks lf text) none in
    let bytes = text ++ lf ∷ more in
    ap (λ b. if b then (c ∷ []) ∷ raw_lines bytes else lines_after c (raw_lines bytes)) (not-true (c == lf) parts.0)
    ∙ ap (lines_after c) (raw_lines-text text more parts.1)

pub raw_lines-line : (text more : List ℕ) → lacks lf text ≡ true → raw_lines (line text ++ more) ≡ line text ∷ raw_lines more
raw_lines-line text more none = ap raw_lines (append_assoc text (lf ∷ []) more) ∙ raw_lines-text text more none

raw_lines-alone : (text : List ℕ) → lacks lf text ≡ true → raw_lines (line text) ≡ line text ∷ []
raw_lines-alone text none = raw_lines-text text [] none

-- what follows the first line isn't changed by a byte in front of it
lines_after-more : (c d : ℕ) (lines more : List (List ℕ)) → lines_after c (lines_after d lines ++ more) ≡ lines_after c (lines_after d lines) ++ more
lines_after-more c d [] more = refl
lines_after-more c d (line ∷ lines) more = refl

lines_after-append : (c d : ℕ) (bytes : List ℕ) (more : List (List ℕ)) → lines_after c (raw_lines (d ∷ bytes) ++ more) ≡ lines_after c (raw_lines (d ∷ bytes)) ++ more
lines_after-append c d bytes more =
    elim (d == lf) as (λ b. let ls : List (List ℕ) = (if b then (d ∷ []) ∷ raw_lines bytes else lines_after d (raw_lines bytes)) in lines_after c (ls ++ more) ≡ lines_after c ls ++ more)
    [ true ↦ refl | false ↦ lines_after-more c d (raw_lines bytes) more ]

AreWholeLines-tail : (c d : ℕ) (bytes : List ℕ) → AreWholeLines (c ∷ d ∷ bytes) → AreWholeLines (d ∷ bytes)
AreWholeLines-tail c d bytes (inl none) = cc
AreWholeLines-tail c d bytes (inr ended) = inr (IsEnded-tail c d bytes ended)

AreWholeLines-one : (c : ℕ) → AreWholeLines (c ∷ []) → c ≡ lf
AreWholeLines-one c (inl none) = cc
AreWholeLines-one c (inr ended) = ended

-- the lines behind whole lines
raw_lines-append : (before more : List ℕ) → AreWholeLines before → raw_lines (before ++ more) ≡ raw_lines before ++ raw_lines more
raw_lines-append [] more whole = refl
raw_lines-append (c ∷ []) more whole = subst (λ b. raw_lines (b ∷ more) ≡ raw_lines (b ∷ []) ++ raw_lines more) (sym (AreWholeLines-one c whole)) refl
raw_lines-append (c ∷ d ∷ before) more whole =
    let rest = raw_lines (d ∷ before) in
    let rest_more = raw_lines (d ∷ (before ++ more)) in
    let same : raw_lines (d ∷ (before ++ more)) ≡ raw_lines (d ∷ before) ++ raw_lines more = raw_lines-append (d ∷ before) more (AreWholeLines-tail c d before whole) in
    elim (c == lf) as (λ b. (if b then (c ∷ []) ∷ rest_more else lines_after c rest_more) ≡ (if b then (c ∷ []) ∷ rest else lines_after c rest) ++ raw_lines more)
    [ true ↦ ap (λ l. (c ∷ []) ∷ l) same | false ↦ ap (lines_after c) same ∙ lines_after-append c d before (raw_lines more) ]

-- all but the last bytes are passed one by one
pub drop-cons : (c n : ℕ) (bytes : List ℕ) → n ≤ length bytes → drop (length (c ∷ bytes) - n) (c ∷ bytes) ≡ drop (length bytes - n) bytes
drop-cons c n bytes few = let e : length (c ∷ bytes) - n ≡ suc (length bytes - n) = omega (arith, few) in ap (λ m. drop m (c ∷ bytes)) e

-- no CR of the text goes with the LF
ends_in_cr : (c : ℕ) (text : List ℕ) → ends_with nat_eq (c ∷ line text) (cr ∷ lf ∷ []) ≡ ends_with nat_eq (c ∷ text) (cr ∷ [])
ends_in_cr c [] = refl
ends_in_cr c (d ∷ text) =
    ap (pointwise nat_eq (cr ∷ lf ∷ [])) (drop-cons c 2 (d ∷ line text) (omega (arith, length-append text (lf ∷ []))))
    ∙ ends_in_cr d text ∙ ap (pointwise nat_eq (cr ∷ [])) (sym (drop-cons c 1 (d ∷ text) (omega arith)))

pub line_length : (text : List ℕ) → length text ≡ length (line text) - 1
line_length text = omega (arith, length-append text (lf ∷ []))

pub has_lf-line : (text : List ℕ) → has_lf (line text) ≡ true
has_lf-line text = ap (pointwise nat_eq (lf ∷ [])) (drop_at text (lf ∷ []) (length (line text) - 1) (line_length text))

pub text_of-line : (text : List ℕ) → ends_with nat_eq text (cr ∷ []) ≡ false → text_of (line text) ≡ text
text_of-line [] none = refl
text_of-line (c ∷ text) none =
    let raw = line (c ∷ text) in
    let less = take (length raw - 1) raw in
    ap (λ b. if b then take (length raw - 2) raw else (if ends_with nat_eq raw (lf ∷ []) then less else raw)) (ends_in_cr c text ∙ none)
    ∙ ap (λ b. if b then less else raw) (has_lf-line (c ∷ text))
    ∙ take_at (c ∷ text) (lf ∷ []) (length raw - 1) (line_length (c ∷ text))

-- such a text's line is one line, and a header where the text begins with an equals sign
pub IsOneLine-line : (text : List ℕ) → is_line_text text ≡ true → IsOneLine text (line text)
IsOneLine-line text is =
    let parts = and_parts (lacks lf text) (not (ends_with nat_eq text (cr ∷ []))) is in
    record {
      alone = raw_lines-alone text parts.0;
      reads = text_of-line text (not-true (ends_with nat_eq text (cr ∷ [])) parts.1);
      behind = λ before whole. raw_lines-append before (line text) whole ∙ ap (λ l. raw_lines before ++ l) (raw_lines-alone text parts.0);
    }

pub is_header-line : (text : List ℕ) → is_line_text text ≡ true → is_header (line text) ≡ begins_with_equals text
is_header-line text is = ap begins_with_equals (IsOneLine-line text is).reads
