-- Texts of few bytes, the first of which is that of a dump, make a dump that is accepted.
use Rattle.std.proofs.Common.{◌≡◌, ℕ, ◌-◌, ◌≤◌, true, cond, List, [], ◌∷◌, ◌++◌, length, map, None, Some, slice_get, if◌then◌else◌, refl, ◌∙◌, ap, arith}
use Rattle.std.specs.Prelude.{not, nat_lt, nat_le, filter, codes, All, unwrap_or}
use Rattle.std.specs.List.{list_all, AllByRecursion}
use Rattle.std.specs.Option.{option_map, option_or}
use Rattle.std.specs.Str.{bytes_eq}
use Rattle.std.proofs.lemmas.Bool.{le-ltb}
use Rattle.std.proofs.lemmas.Option.{slice_get_past}
use Rattle.std.proofs.lemmas.List.Elements.{All-from_recursion, All-weaker, filter-append}
use Rattle.std.proofs.lemmas.List.Filters.{sum_by-filter_both}
use Rattle.dump_io.specs.Limits.{usual}
use Rattle.dump_io.specs.Lines.{Header, headers, text_of}
use Rattle.line_source.specs.Streams.{begins_with_equals, length_before_lf}
use Rattle.dump_sections.specs.declared.index.State.TheVariants.{Whole, TruncatedIn}
use Rattle.section_index.specs.declared.opening.OpenFault.TheVariants.{TooLarge, TooManySections, HeadersTooLarge, HeaderTooLong}
use Rattle.dump_sections.specs.Bodies.{body_length}
use Rattle.dump_sections.specs.Index.{last_text, dump_state}
use Rattle.dump_sections.specs.Versions.{first_in, version_named}
use Rattle.section_index.specs.Opening.{version_fault, text_bytes, headers_upto, IsAccepted, fault_of, header_fault, earlier, surplus_header, large_headers, other_version}
use Rattle.dump_sections.specs.Sections.{tag_of, id_of, next_at, sections_of, sections}
use Rattle.dump_write.specs.Written.{is_line_text, lines_of}
use Rattle.dump_write.proofs.Divided.{are_line_texts, raw_lines-lines_of, header_texts, header_count, none_too_long, text_bytes-le, headers_are_within}
use Rattle.dump_write.proofs.TextLists.{AreTexts}

-- no header is one too many
no_surplus : (hs : List Header) → length hs ≤ usual.sections → surplus_header hs usual ≡ None
no_surplus hs few = ap (option_map (λ (h : Header). TooManySections h.at)) (slice_get_past hs usual.sections few)

-- a part of the headers has no more bytes than all
text_bytes-upto : (at : ℕ) (hs : List Header) → text_bytes (headers_upto at hs) ≤ text_bytes hs
text_bytes-upto at hs =
    omega (arith, sum_by-filter_both (λ (h : Header). nat_le h.at at) (λ h. not (nat_le h.at at)) (λ _. refl) (λ h. length h.text) hs)

none_over : (all hs : List Header) → text_bytes all ≤ usual.pool → filter (λ (h : Header). nat_lt usual.pool (text_bytes (headers_upto h.at all))) hs ≡ []
none_over all [] few = refl
none_over all (h ∷ hs) few =
    let rest = filter (λ (h : Header). nat_lt usual.pool (text_bytes (headers_upto h.at all))) hs in
    ap (λ b. cond b (h ∷ rest) rest) (le-ltb usual.pool (text_bytes (headers_upto h.at all)) (omega (arith, text_bytes-upto h.at all, few))) ∙ none_over all hs few

none_large : (hs : List Header) → text_bytes hs ≤ usual.pool → large_headers hs usual ≡ None
none_large hs few = ap (λ (over : List Header). option_map (λ (h : Header). HeadersTooLarge h.at) (slice_get over 0)) (none_over hs hs few)

-- the text of the first line, and what is judged of it
abbrev version_line : List ℕ
version_line = codes "=erl_crash_dump:0.5"

first_is_known : (texts : List (List ℕ)) → list_all is_line_text (version_line ∷ texts) ≡ true → other_version (lines_of (version_line ∷ texts)) usual ≡ None
first_is_known texts are =
    ap (λ raws. let raw = first_in raws in let id = unwrap_or (id_of (text_of raw)) [] in
    if nat_lt usual.header (length_before_lf raw) then None else version_fault id (version_named id))
    (raw_lines-lines_of (version_line ∷ texts) are)

no_header_fault : (texts : List (List ℕ)) (heads bytes : ℕ) → AreTexts texts heads bytes → heads ≤ usual.sections → bytes ≤ usual.pool → header_fault (lines_of texts) usual ≡ None
no_header_fault texts heads bytes are few small =
    let line_texts = are_line_texts texts are.printed in
    let dump = lines_of texts in
    let count : length (headers dump) ≤ usual.sections = omega (arith, header_count texts line_texts, are.heads_are, few) in
    let pool : text_bytes (headers dump) ≤ usual.pool = omega (arith, text_bytes-le texts line_texts, are.most, small) in
    ap (λ places. earlier (option_map (λ at. HeaderTooLong at) (slice_get places 0)) (earlier (surplus_header (headers dump) usual) (large_headers (headers dump) usual)))
    (none_too_long 4096 texts line_texts are.short)
    ∙ ap (λ fault. earlier fault (large_headers (headers dump) usual)) (no_surplus (headers dump) count)
    ∙ none_large (headers dump) pool

pub accepted : (texts : List (List ℕ)) (heads bytes : ℕ) → AreTexts (version_line ∷ texts) heads bytes → heads ≤ usual.sections → bytes ≤ usual.pool → IsAccepted (lines_of (version_line ∷ texts)) usual
accepted texts heads bytes are few small =
    let all = version_line ∷ texts in
    let dump = lines_of all in
    ap (λ b. option_or (if b then Some (TooLarge (length dump)) else None) (fault_of dump usual)) (le-ltb usual.dump (length dump) (omega (arith, are.most, small)))
    ∙ ap (λ fault. option_or fault (header_fault dump usual)) (first_is_known texts (are_line_texts all are.printed))
    ∙ no_header_fault all heads bytes are few small

-- the last header

last_in : List (List ℕ) → List ℕ
last_in [] = []
last_in (text ∷ []) = text
last_in (text ∷ next ∷ texts) = last_in (next ∷ texts)

last_text_is : (hs : List Header) → last_text hs ≡ last_in (map (λ h. h.text) hs)
unfolding last_in
last_text_is [] = refl
last_text_is (h ∷ []) = refl
last_text_is (h ∷ next ∷ hs) = last_text_is (next ∷ hs)

last_in_push : (texts : List (List ℕ)) (text : List ℕ) → last_in (texts ++ text ∷ []) ≡ text
unfolding last_in
last_in_push [] text = refl
last_in_push (one ∷ []) text = refl
last_in_push (one ∷ next ∷ texts) text = last_in_push (next ∷ texts) text

pub whole : (texts : List (List ℕ)) → list_all is_line_text (texts ++ codes "=end" ∷ []) ≡ true → dump_state (headers (lines_of (texts ++ codes "=end" ∷ []))) ≡ Whole
whole texts are =
    let all = texts ++ codes "=end" ∷ [] in
    let hs = headers (lines_of all) in
    let last : last_text hs ≡ codes "=end" =
    last_text_is hs ∙ ap last_in (header_texts all are ∙ filter-append begins_with_equals texts (codes "=end" ∷ [])) ∙ last_in_push (filter begins_with_equals texts) (codes "=end") in
    ap (λ text. if bytes_eq (tag_of text) (codes "end") then Whole else TruncatedIn (length hs - 1)) last

-- sections

next_at-le : (size : ℕ) (hs : List Header) → AllByRecursion (λ (h : Header). h.at ≤ size) hs → next_at (slice_get hs 0) size ≤ size
next_at-le size [] within = omega arith
next_at-le size (h ∷ hs) within = within.0

short_bodies : (size : ℕ) (hs : List Header) → AllByRecursion (λ (h : Header). h.at ≤ size) hs → AllByRecursion (λ section. body_length section ≤ size) (sections_of hs size)
short_bodies size [] within = tt
short_bodies size (h ∷ hs) within = (omega (arith, next_at-le size hs within.1), short_bodies size hs within.1)

pub bodies_are_short : (texts : List (List ℕ)) (heads bytes limit : ℕ) → AreTexts texts heads bytes → bytes ≤ limit → All (λ section. body_length section ≤ limit) (sections (lines_of texts))
bodies_are_short texts heads bytes limit are few =
    let size = length (lines_of texts) in
    All-weaker (λ section. body_length section ≤ size) (λ section. body_length section ≤ limit) (λ section short. omega (arith, short, are.most, few)) (sections (lines_of texts))
    (All-from_recursion (λ section. body_length section ≤ size) (sections (lines_of texts)) (short_bodies size (headers (lines_of texts)) (headers_are_within texts (are_line_texts texts are.printed))))
