-- How a dump begins, by its first bytes.
use Rattle.std.proofs.Common.{◌≡◌, ℕ, ◌+◌, ◌<◌, ◌≤◌, Bool, true, false, List, [], ◌∷◌, ◌++◌, length, map, filter, Some, None, Result, if◌then◌else◌, refl, ap, arith, append-nil, nat_lt}
use Rattle.std.specs.List.{starts_with}
use Rattle.std.specs.Option.{option_or}
use Rattle.std.specs.Prelude.{nat_eq}
use Rattle.std.proofs.lemmas.Bool.{and_parts, eqb-true, lt-ltb, le-ltb, ltb-true, ltb-false}
use Rattle.std.proofs.lemmas.List.{take-append-le}
use Rattle.dump_io.specs.Limits.{Numbers}
use Rattle.dump_io.specs.Lines.{raw_lines, lines_after, text_of, is_header, Header, headers, lines_from, header_of, Line}
use Rattle.line_source.specs.Streams.{length_before_lf}
use Rattle.line_source.specs.Feeding.{first_too_long}
use Rattle.section_index.specs.declared.opening.OpenFault.{OpenFault}
use Rattle.section_index.specs.declared.opening.OpenFault.TheVariants.{NotADump, Version as UnknownVersion, HeaderTooLong}
use Rattle.dump_sections.specs.declared.version.Version.{Version}
use Rattle.dump_sections.specs.Versions.{signature, first_line, first_id, version_named}
use Rattle.section_index.specs.Opening.{gzip_mark, version_fault, other_version, header_fault}
use Rattle.section_index.specs.Inner.Beginning.{IsAllOrLong, id_in, IsVersionOf, IsJudged}
use Rattle.section_index.specs.Opening.{fault_of}
use Rattle.section_index.proofs.Causes.{fault-long}
use Rattle.dump_sections.specs.TilingLaws.{is_header-first}

-- the first bytes tell whether all begin so
starts-if : (q : Bool) (first more start : List ℕ) → nat_lt (length first) 16384 ≡ q → length start ≤ 16384 → IsAllOrLong first more
    → starts_with nat_eq (first ++ more) start ≡ starts_with nat_eq first start
starts-if q first more start e short all = grind (arith, ltb-true, append-nil, take-append-le, ltb-false)

pub starts-front : (first more start : List ℕ) → length start ≤ 16384 → IsAllOrLong first more → starts_with nat_eq (first ++ more) start ≡ starts_with nat_eq first start
starts-front first more start short all = starts-if (nat_lt (length first) 16384) first more start refl short all

-- the first line of what begins with an equals sign
raw_lines-equals : (bytes : List ℕ) → (line : List ℕ) × (rest : List (List ℕ)) × (raw_lines (61 ∷ bytes) ≡ (61 ∷ line) ∷ rest)
raw_lines-equals bytes =
    elim (raw_lines bytes) as (λ lines. (line : List ℕ) × (rest : List (List ℕ)) × (lines_after 61 lines ≡ (61 ∷ line) ∷ rest))
    [ [] ↦ ([], [], refl) | line ∷ rest ↦ (line, rest, refl) ]

abbrev line_at : List ℕ → Line
line_at raw = record { at = 0; raw = raw }

-- the headers of lines of which the first is one
headers-first : (line : List ℕ) (rest : List (List ℕ)) → is_header line ≡ true
    → (hs : List Header) × (map header_of (filter (λ l. is_header l.raw) (lines_from 0 (line ∷ rest))) ≡ header_of (line_at line) ∷ hs)
headers-first line rest is =
    let others : List Line = filter (λ l. is_header l.raw) (lines_from (0 + length line) rest) in
    (map header_of others, ap (λ b. map header_of (if b then line_at line ∷ others else others)) is)

pub headers-some : (bytes : List ℕ) → starts_with nat_eq bytes signature ≡ true → 1 ≤ length (headers bytes)
headers-some bytes is = grind (arith, eqb-true, and_parts, raw_lines-equals, headers-first, is_header-first)

-- a first line that is too long is the first of those
first-long : (bytes : List ℕ) (limit : ℕ) → limit < length_before_lf (first_line (61 ∷ bytes)) → first_too_long limit (61 ∷ bytes) ≡ Some 0
first-long bytes limit over = grind arith

first-long-signed : (bytes : List ℕ) (limit : ℕ) → starts_with nat_eq bytes signature ≡ true → limit < length_before_lf (first_line bytes) → first_too_long limit bytes ≡ Some 0
first-long-signed bytes limit is over = grind (arith, eqb-true, and_parts, first-long)

-- what the beginning tells
pub judge-unsigned : (bytes : List ℕ) (limits : Numbers) → starts_with nat_eq bytes gzip_mark ≡ false → starts_with nat_eq bytes signature ≡ false
    → fault_of bytes limits ≡ Some NotADump
judge-unsigned bytes limits plain other = grind arith

judge-signed : (bytes : List ℕ) (limits : Numbers) → starts_with nat_eq bytes gzip_mark ≡ false → starts_with nat_eq bytes signature ≡ true
    → fault_of bytes limits ≡ option_or (other_version bytes limits) (header_fault bytes limits)
judge-signed bytes limits plain signed = grind arith

judge-short : (bytes : List ℕ) (limits : Numbers) → starts_with nat_eq bytes gzip_mark ≡ false → starts_with nat_eq bytes signature ≡ true
    → length_before_lf (first_line bytes) ≤ limits.header
    → fault_of bytes limits ≡ option_or (version_fault (first_id bytes) (version_named (first_id bytes))) (header_fault bytes limits)
judge-short bytes limits plain signed short = grind (arith, judge-signed, le-ltb)

pub judge-long : (bytes : List ℕ) (limits : Numbers) → starts_with nat_eq bytes gzip_mark ≡ false → starts_with nat_eq bytes signature ≡ true
    → limits.header < length_before_lf (first_line bytes) → fault_of bytes limits ≡ Some (HeaderTooLong 0)
judge-long bytes limits plain signed over =
    cc (
      judge-signed bytes limits plain signed,
      lt-ltb limits.header (length_before_lf (first_line bytes)) over,
      fault-long bytes limits 0 [] (headers bytes) refl (omega arith) (omega arith) (λ k d lt. omega arith) (first-long-signed bytes limits.header signed over),
    )

version-refused : (bytes text : List ℕ) (limits : Numbers) (fault : OpenFault) → starts_with nat_eq bytes gzip_mark ≡ false → starts_with nat_eq bytes signature ≡ true
    → length_before_lf (first_line bytes) ≤ limits.header → text ≡ text_of (first_line bytes)
    → (fault ≡ UnknownVersion (id_in text)) × (version_named (id_in text) ≡ None) → fault_of bytes limits ≡ Some fault
version-refused bytes text limits fault plain signed short same why = grind (arith, judge-short)

pub judge-version : (bytes text : List ℕ) (limits : Numbers) (answer : Result Version OpenFault) → starts_with nat_eq bytes gzip_mark ≡ false → starts_with nat_eq bytes signature ≡ true
    → length_before_lf (first_line bytes) ≤ limits.header → text ≡ text_of (first_line bytes) → IsVersionOf text answer → IsJudged limits bytes answer
judge-version bytes text limits answer plain signed short same is = grind (arith, judge-short, version-refused)
