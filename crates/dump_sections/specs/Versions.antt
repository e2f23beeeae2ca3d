-- How a dump begins, and the versions of its format.
use Rattle.std.specs.Prelude.{ℕ, List, [], ◌∷◌, Option, None, Some, unwrap_or, codes, if◌then◌else◌}
use Rattle.std.specs.Str.{bytes_eq}
use Rattle.dump_io.specs.Lines.{raw_lines, text_of}
use Rattle.dump_sections.specs.declared.version.Version.{Version}
use Rattle.dump_sections.specs.declared.version.Version.TheVariants.{V03, V04, V05}
use Rattle.dump_sections.specs.Sections.{id_of}

-- the bytes with which a dump begins
abbrev pub signature : List ℕ
signature = codes "=erl_crash_dump:"

-- the version with this name
abbrev pub version_named : List ℕ → Option Version
version_named id =
    if bytes_eq id (codes "0.3") then Some V03
    else (if bytes_eq id (codes "0.4") then Some V04 else (if bytes_eq id (codes "0.5") then Some V05 else None))

-- the first of a list of lines
abbrev pub first_in : List (List ℕ) → List ℕ
first_in [] = []
first_in (raw ∷ raws) = raw

-- the first raw line
abbrev pub first_line : List ℕ → List ℕ
first_line bytes = first_in (raw_lines bytes)

-- the id of the first line
abbrev pub first_id : List ℕ → List ℕ
first_id bytes = unwrap_or (id_of (text_of (first_line bytes))) []
