-- The binaries that a dump has in its `binary` sections.
use Rattle.std.specs.Prelude.{ℕ, List, Option, None, codes, unwrap_or, if◌then◌else◌}
use Rattle.std.specs.Option.{option_map, option_and_then}
use Rattle.dump_io.specs.Numbers.{hex_number}
use Rattle.dump_sections.specs.Lookups.{first_hex, has_tag}
use Rattle.dump_sections.specs.Sections.{Section, id_of}
use Rattle.term_forms.specs.Words.{led_of}
use Rattle.dump_sections.specs.Bodies.{body_of, section_at}
use Rattle.dump_sections.specs.Index.{Contents}

-- the number of a section whose tag is `binary` and whose id is that number in hex
abbrev pub binary_number : Section → Option ℕ
binary_number section = if has_tag (codes "binary") section.text then option_and_then hex_number (id_of section.text) else None

-- the first `binary` section whose id is the address in hex
abbrev pub binary_section : ℕ → List Section → Option Section
binary_section address sections = first_hex (codes "binary") address sections

-- the body of the section at a place of an index
abbrev pub body_at : List ℕ → Contents → ℕ → List ℕ
body_at dump index place = body_of dump (section_at index place)

-- the size that the body of a binary states: the number of 1 to 16 hex
-- digits before the `:` with which it begins, or 0 if it doesn't begin so
abbrev pub size_stated : List ℕ → ℕ
size_stated body = unwrap_or (option_map (λ led. led.0) (led_of body)) 0
