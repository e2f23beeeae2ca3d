-- The line on the state of a dump. Offsets are of the file.
use Rattle.std.specs.Prelude.{ℕ, List, [], ◌∷◌, decimal, codes, slice_get, Option, None, Some}
use Rattle.dump_sections.specs.declared.index.State.{State}
use Rattle.dump_sections.specs.declared.index.State.TheVariants.{Whole, TruncatedIn}
use Rattle.dump_sections.specs.Sections.{Section}
use Rattle.report_lines.specs.Lines.{line_of, word_space}

-- the line of a section in which the dump is truncated
abbrev pub truncated_line : Option Section → List ℕ
truncated_line None = []
truncated_line (Some s) = line_of word_space (codes "truncated" ∷ decimal s.at ∷ s.text ∷ [])

-- the line that says whether the dump is whole
abbrev pub state_line : List Section → State → List ℕ
state_line sections Whole = codes "whole\n"
state_line sections (TruncatedIn i) = truncated_line (slice_get sections i)
