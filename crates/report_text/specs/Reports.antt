-- The texts of the reports, line by line. Offsets are of the file.
use Rattle.std.specs.Prelude.{ℕ, List, [], ◌∷◌, ◌++◌, decimal, codes, length}
use Rattle.std.specs.List.{flat_map}
use Rattle.dump_io.specs.Lines.{Header}
use Rattle.field_lines.specs.Fields.{find_value}
use Rattle.dump_sections.specs.declared.version.Version.{Version}
use Rattle.dump_sections.specs.declared.version.Version.TheVariants.{V03, V04, V05}
use Rattle.dump_sections.specs.Sections.{Section, sections_of}
use Rattle.dump_sections.specs.Index.{dump_state}
use Rattle.report_lines.specs.Lines.{line_of, newline, word_space, text_or_dash}
use Rattle.report_lines.specs.States.{state_line}

-- the line of a section: where its header begins, where its body begins and ends, and its header's text
abbrev pub section_line : Section → List ℕ
section_line s = line_of word_space (decimal s.at ∷ decimal s.body ∷ decimal s.end ∷ s.text ∷ [])

-- the report of `index` on a dump with these headers and
-- this size: a line for each section, then the state line
abbrev pub index_report : List Header → ℕ → List ℕ
index_report headers size =
    flat_map section_line (sections_of headers size) ++ state_line (sections_of headers size) (dump_state headers)

-- a version as the dump writes it
abbrev pub version_text : Version → List ℕ
version_text V03 = codes "0.3"
version_text V04 = codes "0.4"
version_text V05 = codes "0.5"

-- the line of a tag, with the number of sections that have it
abbrev pub tag_line : List ℕ × ℕ → List ℕ
tag_line (tag, count) = line_of word_space (codes "tag" ∷ decimal count ∷ tag ∷ [])

-- the first lines of `info`: version, size, number of sections, and the slogan of this first body
abbrev pub info_heading : List ℕ → ℕ → ℕ → List ℕ → List ℕ
info_heading version size sections first_body =
    line_of newline ((codes "version " ++ version) ∷ (codes "size " ++ decimal size)
    ∷ (codes "sections " ++ decimal sections) ∷ (codes "slogan " ++ text_or_dash (find_value first_body (codes "Slogan"))) ∷ [])

-- the report of `info` on a dump of this version, with these headers and
-- this size, these counts of tags and this body of the first section
abbrev pub info_report : List ℕ → List Header → ℕ → List (List ℕ × ℕ) → List ℕ → List ℕ
info_report version headers size tags first_body =
    info_heading version size (length headers) first_body
    ++ (flat_map tag_line tags ++ state_line (sections_of headers size) (dump_state headers))
