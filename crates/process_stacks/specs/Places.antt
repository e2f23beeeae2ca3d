-- The places at which processes stand.
use Rattle.std.specs.Prelude.{◌≡◌, ℕ, List, ◌++◌, codes, Option, option_map}
use Rattle.std.specs.List.{flat_map}
use Rattle.std.specs.Option.{option_to_list}
use Rattle.dump_sections.specs.Bodies.{body_in}
use Rattle.dump_sections.specs.Index.{Contents}
use Rattle.section_rows.specs.Rows.{Row}
use Rattle.text_groups.specs.Cut.{cut_text}
use Rattle.process_stacks.specs.Frames.{frames}
use Rattle.process_stacks.specs.Rows.{call_in, counter_in, stack_section}

-- a place: the program counter and the current call, where there are such, and the frames
pub record Place : Type 0 where
  pub counter : Option (List ℕ)
  pub call : Option (List ℕ)
  pub frames : List (List ℕ)

-- the place at which the process of a row stands
abbrev pub place_of : List ℕ → Contents → Row → Place
place_of dump index row = record {
  counter = option_map cut_text (counter_in row);
  call = option_map cut_text (call_in row);
  frames = frames (body_in dump (stack_section index row));
}

-- a line of a place: a word that says what follows it, and a text
abbrev pub place_line : List ℕ → List ℕ → List ℕ
place_line word text = word ++ (codes "\t" ++ (text ++ codes "\n"))

-- the line of a text, if there is one
abbrev pub part_line : List ℕ → Option (List ℕ) → List ℕ
part_line word text = flat_map (place_line word) (option_to_list text)

-- the lines of a place, which tell it
abbrev pub place_lines : Place → List ℕ
place_lines place =
    (part_line (codes "at") place.counter ++ part_line (codes "call") place.call) ++ flat_map (place_line (codes "frame")) place.frames

-- the processes of two rows stand at the same place if the lines of their places are the same
abbrev pub IsTold : List ℕ → Contents → Row → Row → Type 0
IsTold dump index one other =
    place_lines (place_of dump index one) ≡ place_lines (place_of dump index other) → place_of dump index one ≡ place_of dump index other
