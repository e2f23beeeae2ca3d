-- The sections of the first bytes of a dump.
use Rattle.std.proofs.Common.{◌≡◌, ℕ, zero, suc, ◌+◌, ◌-◌, ◌<◌, ◌≤◌, true, false, cond, List, [], ◌∷◌, length, take, map, filter, count_by, nat_lt, if◌then◌else◌, refl, sym, ◌∙◌, ap, subst, slice_get, ⊎_elim, arith}
use Rattle.std.specs.Prelude.{All}
use Rattle.std.proofs.lemmas.Bool.{lt-ltb, le-ltb, cases_lt}
use Rattle.std.proofs.lemmas.List.{take_all, length-take-le}
use Rattle.std.proofs.lemmas.List.Sums.{sum_by-cons}
use Rattle.std.proofs.lemmas.List.Elements.{All-head, All-tail}
use Rattle.dump_io.specs.Lines.{raw_lines, is_header, Header, headers, lines_from, header_of, Line}
use Rattle.dump_io.specs.Laws.Lines.{AreLines-raw}
use Rattle.dump_sections.specs.Cuts.{AreCutSections}
use Rattle.dump_sections.specs.Sections.{Section, section, sections_of, next_at, sections}
use Rattle.dump_sections.specs.TilingLaws.{line_at, headers_in, is_header-first}

-- the lines of the first so many bytes
abbrev pub cut_lines : ℕ → List (List ℕ) → List (List ℕ)
cut_lines n [] = []
cut_lines n (line ∷ lines) =
    if nat_lt (length line) n then line ∷ cut_lines (n - length line) lines
    else (if nat_lt 0 n then take n line ∷ [] else [])

cut_lines-zero : (lines : List (List ℕ)) → cut_lines 0 lines ≡ []
cut_lines-zero [] = refl
cut_lines-zero (line ∷ lines) = ap (λ b. if b then line ∷ cut_lines (0 - length line) lines else []) (le-ltb (length line) 0 (omega arith))

-- first bytes that end behind the first line, and such that end within it
cut_lines-past : (n : ℕ) (line : List ℕ) (lines : List (List ℕ)) → length line < n → cut_lines n (line ∷ lines) ≡ line ∷ cut_lines (n - length line) lines
cut_lines-past n line lines past =
    ap (λ b. if b then line ∷ cut_lines (n - length line) lines else (if nat_lt 0 n then take n line ∷ [] else [])) (lt-ltb (length line) n past)

cut_lines-inside : (n : ℕ) (line : List ℕ) (lines : List (List ℕ)) → 0 < n → n ≤ length line → cut_lines n (line ∷ lines) ≡ take n line ∷ []
cut_lines-inside n line lines some inside = grind arith

raw_lines-take : (n : ℕ) (bytes : List ℕ) → raw_lines (take n bytes) ≡ cut_lines n (raw_lines bytes)
raw_lines-take zero bytes = sym (cut_lines-zero (raw_lines bytes))
raw_lines-take (suc n) [] = refl
raw_lines-take (suc n) (c ∷ bytes) = grind (arith, raw_lines-take n bytes)

-- the headers of the first m bytes, beside those of the whole
abbrev AreCutHeaders : ℕ → List Header → List Header → Type 0
AreCutHeaders m [] [] = Unit {0}
AreCutHeaders m [] (header ∷ whole) = (m ≤ header.at) × AreCutHeaders m [] whole
AreCutHeaders m (head ∷ front) [] = ⊥
AreCutHeaders m (head ∷ []) (header ∷ whole) = (head.at ≡ header.at) × (header.at < m) × AreCutHeaders m [] whole
AreCutHeaders m (head ∷ next ∷ front) (header ∷ whole) = (head ≡ header) × (header.at < m) × AreCutHeaders m (next ∷ front) whole

AreCutHeaders-cons : (m : ℕ) (header : Header) (front whole : List Header) → header.at < m → AreCutHeaders m front whole → AreCutHeaders m (header ∷ front) (header ∷ whole)
AreCutHeaders-cons m header [] whole before are = (refl, before, are)
AreCutHeaders-cons m header (next ∷ front) whole before are = (refl, before, are)

-- headers behind the cut
headers-behind : (at m : ℕ) (raws : List (List ℕ)) → m ≤ at → AreCutHeaders m [] (headers_in (lines_from at raws))
headers-behind at m [] behind = tt
headers-behind at m (raw ∷ raws) behind =
    let more : List Line = lines_from (at + length raw) raws in
    let rest : AreCutHeaders m [] (headers_in more) = headers-behind (at + length raw) m raws (omega arith) in
    elim (is_header raw) as (λ b. AreCutHeaders m [] (map header_of (if b then line_at at raw ∷ filter (λ l. is_header l.raw) more else filter (λ l. is_header l.raw) more)))
    [ true ↦ (behind, rest) | false ↦ rest ]

-- first bytes that end within the first line keep that line's header
inside-cut : (at n c : ℕ) (line : List ℕ) (raws : List (List ℕ)) → suc n ≤ suc (length line)
    → AreCutHeaders (at + suc n) (headers_in (line_at at (c ∷ take n line) ∷ [])) (headers_in (lines_from at ((c ∷ line) ∷ raws)))
inside-cut at n c line raws inside =
    let raw : List ℕ = c ∷ line in
    let more : List Line = lines_from (at + length raw) raws in
    let behind : AreCutHeaders (at + suc n) [] (headers_in more) = headers-behind (at + length raw) (at + suc n) raws (omega arith) in
    let same : is_header (c ∷ line) ≡ is_header (c ∷ take n line) = is_header-first c line ∙ sym (is_header-first c (take n line)) in
    subst (λ b. AreCutHeaders (at + suc n) (headers_in (line_at at (c ∷ take n line) ∷ []))
    (map header_of (if b then line_at at raw ∷ filter (λ l. is_header l.raw) more else filter (λ l. is_header l.raw) more))) (sym same)
    (elim (is_header (c ∷ take n line)) as (λ b. AreCutHeaders (at + suc n) (map header_of (if b then line_at at (c ∷ take n line) ∷ [] else []))
    (map header_of (if b then line_at at raw ∷ filter (λ l. is_header l.raw) more else filter (λ l. is_header l.raw) more)))
    [ true ↦ (refl, omega arith, behind) | false ↦ behind ])

headers-cut : (at n : ℕ) (raws : List (List ℕ)) → All (λ raw. 0 < length raw) raws
    → AreCutHeaders (at + n) (headers_in (lines_from at (cut_lines n raws))) (headers_in (lines_from at raws))
headers-cut at n [] some = tt
headers-cut at zero (raw ∷ raws) some =
    subst (λ l. AreCutHeaders (at + 0) (headers_in (lines_from at l)) (headers_in (lines_from at (raw ∷ raws)))) (sym (cut_lines-zero (raw ∷ raws)))
    (headers-behind at (at + 0) (raw ∷ raws) (omega arith))
headers-cut at (suc n) ([] ∷ raws) some = absurd (omega (arith, All-head (λ r. 0 < length r) [] raws some))
headers-cut at (suc n) ((c ∷ line) ∷ raws) some =
    let raw : List ℕ = c ∷ line in
    ⊎_elim
    (λ past.
    let more : List Line = lines_from (at + length raw) raws in
    let fore : List Line = lines_from (at + length raw) (cut_lines (suc n - length raw) raws) in
    let place : at + length raw + (suc n - length raw) ≡ at + suc n = omega arith in
    let rest : AreCutHeaders (at + suc n) (headers_in fore) (headers_in more) =
    subst (λ m. AreCutHeaders m (headers_in fore) (headers_in more)) place (headers-cut (at + length raw) (suc n - length raw) raws (All-tail (λ r. 0 < length r) raw raws some)) in
    subst (λ l. AreCutHeaders (at + suc n) (headers_in (lines_from at l)) (headers_in (lines_from at (raw ∷ raws)))) (sym (cut_lines-past (suc n) raw raws past))
    (elim (is_header raw) as (λ b. AreCutHeaders (at + suc n) (map header_of (if b then line_at at raw ∷ filter (λ l. is_header l.raw) fore else filter (λ l. is_header l.raw) fore))
    (map header_of (if b then line_at at raw ∷ filter (λ l. is_header l.raw) more else filter (λ l. is_header l.raw) more)))
    [ true ↦ AreCutHeaders-cons (at + suc n) (header_of (line_at at raw)) (headers_in fore) (headers_in more) (omega arith) rest | false ↦ rest ]))
    (λ inside.
    subst (λ l. AreCutHeaders (at + suc n) (headers_in (lines_from at l)) (headers_in (lines_from at (raw ∷ raws)))) (sym (cut_lines-inside (suc n) raw raws (omega arith) inside))
    (inside-cut at n c line raws (omega arith)))
    (cases_lt (length raw) (suc n))

-- the first of both begin at one place
same_first : (m : ℕ) (next header : Header) (front whole : List Header) → AreCutHeaders m (next ∷ front) (header ∷ whole) → next.at ≡ header.at
same_first m next header [] whole are = are.0
same_first m next header (other ∷ front) whole are = ap (λ (h : Header). h.at) are.0

counted-first : (m : ℕ) (first : Section) (rest : List Section) → first.at < m → count_by (λ (s : Section). nat_lt s.at m) (first ∷ rest) ≡ suc (count_by (λ (s : Section). nat_lt s.at m) rest)
counted-first m first rest before =
    sum_by-cons (λ (s : Section). cond (nat_lt s.at m) 1 0) first rest
    ∙ ap (λ b. cond b 1 0 + count_by (λ (s : Section). nat_lt s.at m) rest) (lt-ltb first.at m before)
    ∙ (let e : 1 + count_by (λ (s : Section). nat_lt s.at m) rest ≡ suc (count_by (λ (s : Section). nat_lt s.at m) rest) = omega arith in e)

not_counted-first : (m : ℕ) (first : Section) (rest : List Section) → m ≤ first.at → count_by (λ (s : Section). nat_lt s.at m) (first ∷ rest) ≡ count_by (λ (s : Section). nat_lt s.at m) rest
not_counted-first m first rest behind = grind arith

AreCut-headers : (m n : ℕ) (front whole : List Header) → AreCutHeaders m front whole → AreCutSections (sections_of front m) (sections_of whole n) m
AreCut-headers m n [] [] are = record { count = refl; all_but_last = refl; places = refl }
AreCut-headers m n [] (header ∷ whole) are =
    let rest = AreCut-headers m n [] whole are.1 in
    record {
      count = rest.count ∙ sym (not_counted-first m (section header.at header.body (next_at (slice_get whole 0) n) header.text) (sections_of whole n) are.0);
      all_but_last = refl;
      places = refl;
    }
AreCut-headers m n (head ∷ front) [] are = absurd are
AreCut-headers m n (head ∷ []) (header ∷ whole) are =
    let rest = AreCut-headers m n [] whole are.2 in
    record {
      count = ap suc rest.count ∙ sym (counted-first m (section header.at header.body (next_at (slice_get whole 0) n) header.text) (sections_of whole n) are.1);
      all_but_last = refl;
      places = ap (λ at. at ∷ []) are.0;
    }
AreCut-headers m n (head ∷ next ∷ front) (header ∷ []) are = absurd are.2
AreCut-headers m n (head ∷ next ∷ front) (header ∷ other ∷ whole) are =
    let rest = AreCut-headers m n (next ∷ front) (other ∷ whole) are.2 in
    let first : Section = section header.at header.body other.at header.text in
    let same : ◌≡◌ {A = Section} (section head.at head.body next.at head.text) first =
    ap (λ (h : Header). section h.at h.body next.at h.text) are.0 ∙ ap (λ end. section header.at header.body end header.text) (same_first m next other front whole are.2) in
    let cut : List Section = sections_of (next ∷ front) m in
    let all : List Section = sections_of (other ∷ whole) n in
    let one_less : length (section head.at head.body next.at head.text ∷ cut) - 1 ≡ suc (length cut - 1) = omega arith in
    record {
      count = ap suc rest.count ∙ sym (counted-first m first all are.1);
      all_but_last = ap (λ k. take k (section head.at head.body next.at head.text ∷ cut)) one_less
          ∙ ap (λ (s : Section). s ∷ take (length cut - 1) cut) same ∙ ap (λ l. first ∷ l) rest.all_but_last
          ∙ ap (λ k. take k (first ∷ all)) (sym one_less);
      places = ap (λ (h : Header). h.at ∷ map (λ (s : Section). s.at) cut) are.0 ∙ ap (λ l. header.at ∷ l) rest.places;
    }

-- first bytes that are no more than all
sections_within : (bytes : List ℕ) (n : ℕ) → n ≤ length bytes → AreCutSections (sections (take n bytes)) (sections bytes) (length (take n bytes))
sections_within bytes n inside =
    let raws = raw_lines bytes in
    let start : 0 + n ≡ n = omega arith in
    let cut : AreCutHeaders n (headers_in (lines_from 0 (cut_lines n raws))) (headers bytes) =
    subst (λ m. AreCutHeaders m (headers_in (lines_from 0 (cut_lines n raws))) (headers bytes)) start (headers-cut 0 n raws (AreLines-raw bytes).some) in
    subst (λ l. AreCutSections (sections_of (headers_in (lines_from 0 l)) (length (take n bytes))) (sections bytes) (length (take n bytes))) (sym (raw_lines-take n bytes))
    (subst (λ m. AreCutSections (sections_of (headers_in (lines_from 0 (cut_lines n raws))) m) (sections bytes) m) (sym (length-take-le n bytes inside))
    (AreCut-headers n (length bytes) (headers_in (lines_from 0 (cut_lines n raws))) (headers bytes) cut))

-- the law of cuts
pub sections_cut : (bytes : List ℕ) (n : ℕ) → AreCutSections (sections (take n bytes)) (sections bytes) (length (take n bytes))
sections_cut bytes n =
    ⊎_elim
    (λ past.
    subst (λ l. AreCutSections (sections l) (sections bytes) (length l)) (take_all (length bytes) bytes (omega arith) ∙ sym (take_all n bytes (omega arith)))
    (sections_within bytes (length bytes) (omega arith)))
    (λ inside. sections_within bytes n inside)
    (cases_lt (length bytes) n)
