-- The texts of headers and of heap lines.
use Rattle.std.proofs.Common.{◌≡◌, ℕ, suc, ◌+◌, ◌^◌, ◌<◌, ◌==◌, true, false, cond, List, [], ◌∷◌, ◌++◌, length, take, drop, Option, None, Some, if◌then◌else◌, refl, sym, ◌∙◌, ap, arith, length-append, append_assoc}
use Rattle.std.specs.Prelude.{not, ◌||◌, nat_eq, nat_le}
use Rattle.std.specs.Cmp.Lexicographic.{pointwise}
use Rattle.std.specs.List.{ends_with, position_or_len}
use Rattle.std.proofs.lemmas.Bool.{and_parts, and_from, not-true, not_from_false, leb-true, ne_eqb}
use Rattle.std.proofs.lemmas.List.{take_at, take_all}
use Rattle.std.proofs.lemmas.List.Folds.{list_all-append}
use Rattle.dump_io.specs.Colons.{colon, is_colon, has_colon, after_colon}
use Rattle.dump_io.specs.Lines.{lf, cr, equals_sign}
use Rattle.dump_io.specs.Numbers.{hexadecimal}
use Rattle.line_source.specs.Streams.{begins_with_equals}
use Rattle.dump_sections.specs.Sections.{tag_of, id_of}
use Rattle.dump_write.specs.Written.{lacks, is_line_text, line, header_text, IsHeaderOf}
use Rattle.dump_write.proofs.Numerals.{is_plain, IsPlain, hexadecimal_is_plain, plain_is_no_header}
use Rattle.dump_write.proofs.OneLine.{drop-cons, IsOneLine-line, is_header-line}
use Rattle.dump_io.specs.Laws.Colons.{has_colon-at}
use Rattle.dump_io.specs.Laws.Lists.{list_all-weaker}

-- the first colon stands behind a text that has none
first_colon : (tag id : List ℕ) → lacks colon tag ≡ true → position_or_len is_colon (tag ++ colon ∷ id) ≡ length tag
first_colon [] id none = refl
first_colon (c ∷ tag) id none =
    let parts = and_parts (not (c == colon)) (lacks colon tag) none in
    ap (λ b. cond b (1 + position_or_len is_colon (tag ++ colon ∷ id)) 0) parts.0 ∙ ap (λ n. 1 + n) (first_colon tag id parts.1) ∙ (let e : 1 + length tag ≡ suc (length tag) = omega arith in e)

-- a text without one has no first colon
no_colon : (tag : List ℕ) → lacks colon tag ≡ true → has_colon tag ≡ false
no_colon [] none = refl
no_colon (c ∷ tag) none =
    let parts = and_parts (not (c == colon)) (lacks colon tag) none in
    ap (λ b. b || has_colon tag) (not-true (c == colon) parts.0) ∙ no_colon tag parts.1

all_before_colon : (tag : List ℕ) → lacks colon tag ≡ true → position_or_len is_colon tag ≡ length tag
all_before_colon [] none = refl
all_before_colon (c ∷ tag) none =
    let parts = and_parts (not (c == colon)) (lacks colon tag) none in
    ap (λ b. cond b (1 + position_or_len is_colon tag) 0) parts.0 ∙ ap (λ n. 1 + n) (all_before_colon tag parts.1) ∙ (let e : 1 + length tag ≡ suc (length tag) = omega arith in e)

behind_colon : (tag id : List ℕ) → drop (length tag + 1) (tag ++ colon ∷ id) ≡ id
behind_colon [] id = refl
behind_colon (c ∷ tag) id = let e : length (c ∷ tag) + 1 ≡ suc (length tag + 1) = omega arith in ap (λ n. drop n (c ∷ tag ++ colon ∷ id)) e ∙ behind_colon tag id

-- the text of a header has its tag and its id
tag_of-header_text : (tag : List ℕ) (id : Option (List ℕ)) → lacks colon tag ≡ true → tag_of (header_text tag id) ≡ tag
tag_of-header_text tag None none = ap (λ n. take n tag) (all_before_colon tag none) ∙ take_all (length tag) tag (omega arith)
tag_of-header_text tag (Some id) none = ap (λ n. take n (tag ++ colon ∷ id)) (first_colon tag id none) ∙ take_at tag (colon ∷ id) (length tag) refl

id_of-header_text : (tag : List ℕ) (id : Option (List ℕ)) → lacks colon tag ≡ true → id_of (header_text tag id) ≡ id
id_of-header_text tag None none = ap (λ b. if b then Some (after_colon tag) else None) (no_colon tag none)
id_of-header_text tag (Some id) none =
    ap (λ b. if b then Some (after_colon (tag ++ colon ∷ id)) else None) (has_colon-at tag id)
    ∙ ap (λ n. Some (drop (n + 1) (tag ++ colon ∷ id))) (first_colon tag id none) ∙ ap Some (behind_colon tag id)

header_begins : (tag : List ℕ) (id : Option (List ℕ)) → begins_with_equals (header_text tag id) ≡ true
header_begins tag None = refl
header_begins tag (Some id) = refl

-- the line of a header is a header with its tag and its id
pub IsHeaderOf-line : (tag : List ℕ) (id : Option (List ℕ)) → lacks colon tag ≡ true → is_line_text (header_text tag id) ≡ true → IsHeaderOf (line (header_text tag id)) tag id
IsHeaderOf-line tag id none is =
    let reads = (IsOneLine-line (header_text tag id) is).reads in
    record {
      header = is_header-line (header_text tag id) is ∙ header_begins tag id;
      tagged = ap tag_of reads ∙ tag_of-header_text tag id none;
      named = ap id_of reads ∙ id_of-header_text tag id none;
    }

-- a plain text has no end of a line
plain_lacks_lf : (text : List ℕ) → IsPlain text → lacks lf text ≡ true
plain_lacks_lf text is = list_all-weaker is_plain (λ b. not (b == lf)) plain_is_no_lf text is.plain where
  plain_is_no_lf : (c : ℕ) → is_plain c ≡ true → not (c == lf) ≡ true
  plain_is_no_lf c plain =
      let high = leb-true 48 c (and_parts (nat_le 48 c) (not (c == equals_sign)) plain).0 in
      not_from_false (c == lf) (ne_eqb c lf (λ same. omega (arith, high, same)))

-- what stands in front of a byte doesn't matter for how a text ends
ends_behind : (front : List ℕ) (c : ℕ) (text : List ℕ) → ends_with nat_eq (front ++ c ∷ text) (cr ∷ []) ≡ ends_with nat_eq (c ∷ text) (cr ∷ [])
ends_behind [] c text = refl
ends_behind (b ∷ front) c text =
    ap (pointwise nat_eq (cr ∷ [])) (drop-cons b 1 (front ++ c ∷ text) (omega (arith, length-append front (c ∷ text)))) ∙ ends_behind front c text

ends_behind_colon : (text : List ℕ) → ends_with nat_eq text (cr ∷ []) ≡ false → ends_with nat_eq (colon ∷ text) (cr ∷ []) ≡ false
ends_behind_colon [] none = refl
ends_behind_colon (c ∷ text) none = ap (pointwise nat_eq (cr ∷ [])) (drop-cons colon 1 (c ∷ text) (omega arith)) ∙ none

-- an address and a text of one line make one
pub is_line_text-led : (address : ℕ) (text : List ℕ) → address < 2 ^ 64 → is_line_text text ≡ true → is_line_text (hexadecimal address ++ colon ∷ text) ≡ true
is_line_text-led address text below is =
    let hex = hexadecimal address in
    let whole = hex ++ colon ∷ text in
    let parts = and_parts (lacks lf text) (not (ends_with nat_eq text (cr ∷ []))) is in
    and_from (lacks lf whole) (not (ends_with nat_eq whole (cr ∷ [])))
    (list_all-append (λ b. not (b == lf)) hex (colon ∷ text) ∙ and_from (lacks lf hex) (lacks lf (colon ∷ text)) (plain_lacks_lf hex (hexadecimal_is_plain address below)) parts.0)
    (not_from_false (ends_with nat_eq whole (cr ∷ []))
    (ends_behind hex colon text ∙ ends_behind_colon text (not-true (ends_with nat_eq text (cr ∷ [])) parts.1)))

-- and it is no header
pub led_is_no_header : (address : ℕ) (text : List ℕ) → address < 2 ^ 64 → begins_with_equals (hexadecimal address ++ colon ∷ text) ≡ false
led_is_no_header address text below = plain_is_no_header (hexadecimal address) (colon ∷ text) (hexadecimal_is_plain address below)

-- a heap line, part by part
pub led_line : (address : ℕ) (text : List ℕ) → (hexadecimal address ++ (colon ∷ [])) ++ (text ++ lf ∷ []) ≡ line (hexadecimal address ++ colon ∷ text)
led_line address text = append_assoc (hexadecimal address) (colon ∷ []) (text ++ lf ∷ []) ∙ sym (append_assoc (hexadecimal address) (colon ∷ text) (lf ∷ []))
