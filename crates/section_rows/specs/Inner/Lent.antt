-- A section as an index lends it.
use Rattle.std.specs.Prelude.{◌≡◌, ◌+◌, ◌<◌, ◌≤◌, length}
use Rattle.std.specs.Option.{option_copied}
use Rattle.dump_io.specs.Limits.{usual}
use Rattle.dump_sections.specs.declared.index.Section.{Section as LentSection}
use Rattle.dump_sections.specs.Sections.{Section, section, tag_of, id_of}

abbrev pub shown_section : LentSection → Section
shown_section s = section s.at s.body s.end s.text.now

-- the lent tag and id are those of the header's text, which the header's line
-- contains; that line isn't too long, and the section ends within the largest dump
pub record IsLent (s : LentSection) : Type 0 where
  pub tag : s.tag.now ≡ tag_of s.text.now
  pub id : option_copied s.id ≡ id_of s.text.now
  pub begins : s.at < s.body
  pub line : s.at + length s.text.now ≤ s.body
  pub short : s.body ≤ s.at + usual.header + 1
  pub ends : s.body ≤ s.end
  pub bounded : s.end ≤ usual.dump
