-- Which dumps are accepted, and why the others are refused.
use Rattle.std.specs.Prelude.{◌≡◌, ℕ, List, [], ◌∷◌, length, filter, slice_get, Option, None, Some, nat_lt, nat_le, nat_eq, if◌then◌else◌}
use Rattle.std.specs.List.{starts_with, sum_by}
use Rattle.std.specs.Option.{option_map, option_or}
use Rattle.dump_io.specs.Limits.{Numbers}
use Rattle.dump_io.specs.Lines.{Header, headers}
use Rattle.dump_sections.specs.declared.version.Version.{Version}
use Rattle.dump_sections.specs.Versions.{signature, version_named, first_line, first_id}
use Rattle.line_source.specs.Streams.{length_before_lf}
use Rattle.line_source.specs.Feeding.{first_too_long}
use Rattle.section_index.specs.declared.opening.OpenFault.{OpenFault}
use Rattle.section_index.specs.declared.opening.OpenFault.TheVariants.{Compressed, NotADump, Version as UnknownVersion, TooLarge, HeaderTooLong, TooManySections, HeadersTooLarge}

-- the bytes with which a file that gzip wrote begins
abbrev pub gzip_mark : List ℕ
gzip_mark = 0x1F ∷ 0x8B ∷ []

-- the refusal of an id that names no version
abbrev pub version_fault : List ℕ → Option Version → Option OpenFault
version_fault id None = Some (UnknownVersion id)
version_fault id (Some version) = None

-- the refusal of more bytes than the limit
abbrev pub dump_too_large : List ℕ → Numbers → Option OpenFault
dump_too_large bytes limits = if nat_lt limits.dump (length bytes) then Some (TooLarge (length bytes)) else None

-- the refusal of bytes that begin as gzip writes
abbrev pub compressed : List ℕ → Option OpenFault
compressed bytes = if starts_with nat_eq bytes gzip_mark then Some Compressed else None

-- the refusal of bytes that don't begin as a dump
abbrev pub unsigned : List ℕ → Option OpenFault
unsigned bytes = if starts_with nat_eq bytes signature then None else Some NotADump

-- the refusal of an id that names no version, in a first line that has no more bytes than a header may have
abbrev pub other_version : List ℕ → Numbers → Option OpenFault
other_version bytes limits =
    if nat_lt limits.header (length_before_lf (first_line bytes)) then None
    else version_fault (first_id bytes) (version_named (first_id bytes))

-- the refusal of the first line that begins with an equals sign and
-- has more bytes before its LF or the end than a header may have
abbrev pub long_header : List ℕ → Numbers → Option OpenFault
long_header bytes limits = option_map (λ at. HeaderTooLong at) (first_too_long limits.header bytes)

-- the refusal of the first header before which as many headers stand as are allowed
abbrev pub surplus_header : List Header → Numbers → Option OpenFault
surplus_header headers limits = option_map (λ header. TooManySections header.at) (slice_get headers limits.sections)

-- how many bytes the texts of the headers have together
abbrev pub text_bytes : List Header → ℕ
text_bytes headers = sum_by (λ header. length header.text) headers

-- the headers that begin at or before this offset
abbrev pub headers_upto : ℕ → List Header → List Header
headers_upto at headers = filter (λ header. nat_le header.at at) headers

-- the headers with which the texts have more bytes together than the limit
abbrev pub headers_over : ℕ → List Header → List Header
headers_over pool headers = filter (λ header. nat_lt pool (text_bytes (headers_upto header.at headers))) headers

-- the refusal of the first of those
abbrev pub large_headers : List Header → Numbers → Option OpenFault
large_headers headers limits = option_map (λ header. HeadersTooLarge header.at) (slice_get (headers_over limits.pool headers) 0)

-- the offset of the header that a refusal names
abbrev pub fault_place : OpenFault → ℕ
fault_place (HeaderTooLong at) = at
fault_place (TooManySections at) = at
fault_place (HeadersTooLarge at) = at
fault_place fault = 0

-- of two refusals, the one whose header begins first; for the same header, the first of the two
abbrev pub earlier : Option OpenFault → Option OpenFault → Option OpenFault
earlier None second = second
earlier (Some first) None = Some first
earlier (Some first) (Some second) = if nat_lt (fault_place second) (fault_place first) then Some second else Some first

-- the refusal of a header: that of the first refused header
-- in the dump, and of its refusals the first of these three
abbrev pub header_fault : List ℕ → Numbers → Option OpenFault
header_fault bytes limits =
    earlier (long_header bytes limits) (earlier (surplus_header (headers bytes) limits) (large_headers (headers bytes) limits))

-- why bytes that aren't too many are refused: for their beginning, or otherwise for a header
abbrev pub fault_of : List ℕ → Numbers → Option OpenFault
fault_of bytes limits =
    option_or (compressed bytes) (option_or (unsigned bytes) (option_or (other_version bytes limits) (header_fault bytes limits)))

-- why the bytes of a dump are refused under these limits: the first cause that holds, or none
abbrev pub open_fault : List ℕ → Numbers → Option OpenFault
open_fault bytes limits = option_or (dump_too_large bytes limits) (fault_of bytes limits)

-- the bytes are accepted
abbrev pub IsAccepted : List ℕ → Numbers → Type 0
IsAccepted bytes limits = open_fault bytes limits ≡ None

-- the bytes are refused for this cause, the first that holds
abbrev pub IsRefusedFor : List ℕ → Numbers → OpenFault → Type 0
IsRefusedFor bytes limits fault = open_fault bytes limits ≡ Some fault
