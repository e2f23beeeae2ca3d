-- The bodies of a heap at places of an index; a missing section counts as empty.
use Rattle.std.specs.Prelude.{ℕ, List, Option}
use Rattle.dump_io.specs.Dumps.{Now}
use Rattle.dump_sections.specs.Bodies.{section_in, body_size, IsBodyIn}
use Rattle.dump_sections.specs.Index.{Contents}

-- how many bytes the body at a place has
abbrev pub size_at : Contents → Option ℕ → ℕ
size_at index place = body_size (section_in index place)

-- these are the bytes of the body at a place, if the device tells the bytes of what is open
abbrev pub IsBodyFrom : Now → Contents → Option ℕ → List ℕ → Type 0
IsBodyFrom now index place bytes = IsBodyIn now (section_in index place) bytes
