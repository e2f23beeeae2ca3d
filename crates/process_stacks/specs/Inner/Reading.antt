-- Reading the stacks of processes.
use Rattle.std.specs.Prelude.{◌≡◌, ℕ, List, ◌++◌, codes, option_map}
use Rattle.std.specs.List.{flat_map}
use Rattle.dump_sections.specs.Index.{Contents}
use Rattle.dump_sections.specs.Firsts.{Firsts}
use Rattle.section_rows.specs.Rows.{Row}
use Rattle.text_groups.specs.Cut.{cut_text}
use Rattle.process_stacks.specs.Frames.{frames}
use Rattle.process_stacks.specs.Places.{part_line, place_line}
use Rattle.process_stacks.specs.Rows.{call_in, counter_in}

-- these are the stacks of an index, by their pids
pub record AreStacksOf (index : Contents) (stacks : Firsts) : Type 0 where
  pub tag : stacks.tag ≡ codes "proc_stack"
  pub over : stacks.index ≡ index

-- the lines of the frames of a stack with this body were appended
pub record HasFrames (body lines all : List ℕ) : Type 0 where
  pub appended : all ≡ lines ++ flat_map (place_line (codes "frame")) (frames body)

-- the lines of the place of a process that stand before those of its frames
abbrev pub first_lines : Row → List ℕ
first_lines row = part_line (codes "at") (option_map cut_text (counter_in row)) ++ part_line (codes "call") (option_map cut_text (call_in row))
