-- The lines and the headers of texts, each with LF behind it.
use Rattle.std.proofs.Common.{◌≡◌, ℕ, ◌+◌, ◌-◌, ◌<◌, ◌≤◌, true, false, cond, List, [], ◌∷◌, length, map, refl, sym, ◌∙◌, ap, subst, arith, length-append, zero-add}
use Rattle.std.specs.Prelude.{not, ◌&&◌, ◌==◌, nat_eq, nat_lt, nat_le, filter, count_by}
use Rattle.std.specs.Cmp.Lexicographic.{pointwise}
use Rattle.std.specs.List.{list_all, ends_with, AllByRecursion}
use Rattle.std.proofs.lemmas.Bool.{and_parts, and_from, and_right, not_from_false, leb-true, le-ltb, ne_eqb}
use Rattle.std.proofs.lemmas.List.{length-map}
use Rattle.std.proofs.lemmas.List.Sums.{length-filter, sum_by-cons}
use Rattle.dump_io.specs.Lines.{lf, cr, raw_lines, Line, lines_from, is_header, Header, header_of, headers}
use Rattle.line_source.specs.Streams.{begins_with_equals, length_before_lf, is_too_long, too_long}
use Rattle.section_index.specs.Opening.{text_bytes}
use Rattle.dump_write.specs.Written.{lacks, is_line_text, line, lines_of}
use Rattle.dump_write.proofs.OneLine.{drop-cons, raw_lines-line, is_header-line, IsOneLine-line, has_lf-line, line_length}
use Rattle.dump_write.proofs.TextLists.{is_printed}
use Rattle.dump_io.specs.Laws.Lists.{list_all-weaker}

-- a text without control bytes can stand on a line
printed_is_no_end : (end c : ℕ) → end < 32 → is_printed c ≡ true → not (c == end) ≡ true
printed_is_no_end end c low printed =
    let high = leb-true 32 c printed in not_from_false (c == end) (ne_eqb c end (λ same. omega (arith, high, low, same)))

printed_ends_in_no_cr : (text : List ℕ) → list_all is_printed text ≡ true → ends_with nat_eq text (cr ∷ []) ≡ false
printed_ends_in_no_cr [] printed = refl
printed_ends_in_no_cr (c ∷ []) printed =
    let high = leb-true 32 c (and_parts (is_printed c) true printed).0 in ap (λ b. b && true) (ne_eqb cr c (λ same. omega (arith, high, same)))
printed_ends_in_no_cr (c ∷ d ∷ text) printed =
    ap (pointwise nat_eq (cr ∷ [])) (drop-cons c 1 (d ∷ text) (omega arith)) ∙ printed_ends_in_no_cr (d ∷ text) (and_parts (is_printed c) (list_all is_printed (d ∷ text)) printed).1

printed_is_line_text : (text : List ℕ) → list_all is_printed text ≡ true → is_line_text text ≡ true
printed_is_line_text text printed =
    and_from (lacks lf text) (not (ends_with nat_eq text (cr ∷ [])))
    (list_all-weaker is_printed (λ b. not (b == lf)) (λ c p. printed_is_no_end lf c (omega arith) p) text printed)
    (not_from_false (ends_with nat_eq text (cr ∷ [])) (printed_ends_in_no_cr text printed))

pub are_line_texts : (texts : List (List ℕ)) → list_all (list_all is_printed) texts ≡ true → list_all is_line_text texts ≡ true
are_line_texts texts printed = list_all-weaker (list_all is_printed) is_line_text printed_is_line_text texts printed

-- the lines of texts are their lines, one by one
pub raw_lines-lines_of : (texts : List (List ℕ)) → list_all is_line_text texts ≡ true → raw_lines (lines_of texts) ≡ map line texts
raw_lines-lines_of [] are = refl
raw_lines-lines_of (text ∷ texts) are =
    let parts = and_parts (is_line_text text) (list_all is_line_text texts) are in
    let none = (and_parts (lacks lf text) (not (ends_with nat_eq text (cr ∷ []))) parts.0).0 in
    raw_lines-line text (lines_of texts) none ∙ ap (λ l. line text ∷ l) (raw_lines-lines_of texts parts.1)

-- the lines of texts that begin at an offset, and the headers among them
abbrev lines_at : ℕ → List (List ℕ) → List Line
lines_at at texts = lines_from at (map line texts)

abbrev headers_at : ℕ → List (List ℕ) → List Header
headers_at at texts = map header_of (filter (λ line. is_header line.raw) (lines_at at texts))

headers-lines_of : (texts : List (List ℕ)) → list_all is_line_text texts ≡ true → headers (lines_of texts) ≡ headers_at 0 texts
headers-lines_of texts are = ap (λ raws. map header_of (filter (λ line. is_header line.raw) (lines_from 0 raws))) (raw_lines-lines_of texts are)

-- the line of a text, at an offset
abbrev line_at : ℕ → List ℕ → Line
line_at at text = record { at = at; raw = line text }

header_texts_at : (at : ℕ) (texts : List (List ℕ)) → list_all is_line_text texts ≡ true → map (λ h. h.text) (headers_at at texts) ≡ filter begins_with_equals texts
header_texts_at at [] are = refl
header_texts_at at (text ∷ texts) are =
    let parts = and_parts (is_line_text text) (list_all is_line_text texts) are in
    let rest = filter (λ line. is_header line.raw) (lines_at (at + length (line text)) texts) in
    let reads = (IsOneLine-line text parts.0).reads in
    let tail = header_texts_at (at + length (line text)) texts parts.1 in
    ap (λ b. map (λ (h : Header). h.text) (map header_of (cond b (line_at at text ∷ rest) rest))) (is_header-line text parts.0)
    ∙ elim (begins_with_equals text) as (λ b. map (λ (h : Header). h.text) (map header_of (cond b (line_at at text ∷ rest) rest)) ≡ cond b (text ∷ filter begins_with_equals texts) (filter begins_with_equals texts))
    [ true ↦ ap (λ t. t ∷ map (λ (h : Header). h.text) (map header_of rest)) reads ∙ ap (λ l. text ∷ l) tail | false ↦ tail ]

-- the texts of the headers are the texts that begin with an equals sign
pub header_texts : (texts : List (List ℕ)) → list_all is_line_text texts ≡ true → map (λ h. h.text) (headers (lines_of texts)) ≡ filter begins_with_equals texts
header_texts texts are = ap (map (λ (h : Header). h.text)) (headers-lines_of texts are) ∙ header_texts_at 0 texts are

pub header_count : (texts : List (List ℕ)) → list_all is_line_text texts ≡ true → length (headers (lines_of texts)) ≡ count_by begins_with_equals texts
header_count texts are =
    sym (length-map (headers (lines_of texts)) (λ (h : Header). h.text)) ∙ ap length (header_texts texts are) ∙ length-filter begins_with_equals texts

length_before_lf-line : (text : List ℕ) → length_before_lf (line text) ≡ length text
length_before_lf-line text = ap (λ b. cond b (length (line text) - 1) (length (line text))) (has_lf-line text) ∙ sym (line_length text)

not_too_long : (limit : ℕ) (text : List ℕ) → nat_le (length text) limit ≡ true → is_too_long limit (line text) ≡ false
not_too_long limit text short =
    and_right (begins_with_equals (line text)) (nat_lt limit (length_before_lf (line text)))
    (ap (nat_lt limit) (length_before_lf-line text) ∙ le-ltb limit (length text) (leb-true (length text) limit short))

too_long_at : (limit at : ℕ) (texts : List (List ℕ)) → list_all (λ text. nat_le (length text) limit) texts ≡ true → filter (λ line. is_too_long limit line.raw) (lines_at at texts) ≡ []
too_long_at limit at [] short = refl
too_long_at limit at (text ∷ texts) short =
    let parts = and_parts (nat_le (length text) limit) (list_all (λ text. nat_le (length text) limit) texts) short in
    let rest = filter (λ line. is_too_long limit line.raw) (lines_at (at + length (line text)) texts) in
    ap (λ b. cond b (line_at at text ∷ rest) rest) (not_too_long limit text parts.0) ∙ too_long_at limit (at + length (line text)) texts parts.1

pub none_too_long : (limit : ℕ) (texts : List (List ℕ)) → list_all is_line_text texts ≡ true → list_all (λ text. nat_le (length text) limit) texts ≡ true → too_long limit (lines_of texts) ≡ []
none_too_long limit texts are short =
    ap (λ raws. map (λ (l : Line). l.at) (filter (λ line. is_too_long limit line.raw) (lines_from 0 raws))) (raw_lines-lines_of texts are)
    ∙ ap (map (λ (l : Line). l.at)) (too_long_at limit 0 texts short)

-- the texts of the headers have no more bytes together than the dump
text_bytes_at : (at : ℕ) (texts : List (List ℕ)) → list_all is_line_text texts ≡ true → text_bytes (headers_at at texts) ≤ length (lines_of texts)
text_bytes_at at [] are = omega arith
text_bytes_at at (text ∷ texts) are =
    let parts = and_parts (is_line_text text) (list_all is_line_text texts) are in
    let rest = filter (λ line. is_header line.raw) (lines_at (at + length (line text)) texts) in
    let reads = ap length (IsOneLine-line text parts.0).reads in
    let tail = text_bytes_at (at + length (line text)) texts parts.1 in
    let here = length-append (line text) (lines_of texts) in
    elim (is_header (line text)) as (λ b. text_bytes (map header_of (cond b (line_at at text ∷ rest) rest)) ≤ length (lines_of (text ∷ texts))) [
      | true ↦ omega (arith, sum_by-cons (λ h. length h.text) (header_of (line_at at text)) (map header_of rest), reads, tail, here, length-append text (lf ∷ []))
      | false ↦ omega (arith, tail, here)
    ]

pub text_bytes-le : (texts : List (List ℕ)) → list_all is_line_text texts ≡ true → text_bytes (headers (lines_of texts)) ≤ length (lines_of texts)
text_bytes-le texts are = subst (λ hs. text_bytes hs ≤ length (lines_of texts)) (sym (headers-lines_of texts are)) (text_bytes_at 0 texts are)

-- each header begins within the dump
within_at : (at : ℕ) (texts : List (List ℕ)) → AllByRecursion (λ (h : Header). h.at ≤ at + length (lines_of texts)) (headers_at at texts)
within_at at [] = tt
within_at at (text ∷ texts) =
    let rest = filter (λ line. is_header line.raw) (lines_at (at + length (line text)) texts) in
    let size : at + length (line text) + length (lines_of texts) ≡ at + length (lines_of (text ∷ texts)) = omega (arith, length-append (line text) (lines_of texts)) in
    let tail = subst (λ n. AllByRecursion (λ (h : Header). h.at ≤ n) (headers_at (at + length (line text)) texts)) size (within_at (at + length (line text)) texts) in
    elim (is_header (line text)) as (λ b. AllByRecursion (λ (h : Header). h.at ≤ at + length (lines_of (text ∷ texts))) (map header_of (cond b (line_at at text ∷ rest) rest)))
    [ true ↦ (omega arith, tail) | false ↦ tail ]

pub headers_are_within : (texts : List (List ℕ)) → list_all is_line_text texts ≡ true → AllByRecursion (λ (h : Header). h.at ≤ length (lines_of texts)) (headers (lines_of texts))
headers_are_within texts are =
    subst (λ hs. AllByRecursion (λ (h : Header). h.at ≤ length (lines_of texts)) hs) (sym (headers-lines_of texts are))
    (subst (λ n. AllByRecursion (λ (h : Header). h.at ≤ n) (headers_at 0 texts)) (zero-add (length (lines_of texts))) (within_at 0 texts))
