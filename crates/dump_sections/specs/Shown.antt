-- Sections as the program has them, and as contracts see them.
use Rattle.dump_sections.specs.declared.index.Extent.{Extent}
use Rattle.dump_sections.specs.declared.index.Section.{Section as Lent}
use Rattle.dump_sections.specs.Sections.{Section, section}

-- the section that an extent shows
abbrev pub shown_extent : Extent → Section
shown_extent extent = section extent.at extent.body extent.end extent.text.now

-- the section that a section of an index shows
abbrev pub shown_section : Lent → Section
shown_section lent = section lent.at lent.body lent.end lent.text.now
