-- The report of `stacks`. Offsets are of the file.
use Rattle.std.specs.Prelude.{ℕ, List, [], ◌∷◌, ◌++◌, length, take, slice_index_or, decimal, codes}
use Rattle.std.specs.List.{flat_map}
use Rattle.section_rows.specs.Rows.{Row, row_at}
use Rattle.process_stacks.specs.Groups.{Found}
use Rattle.process_stacks.specs.Rows.{name_in, pid_in}
use Rattle.text_groups.specs.declared.text_group.TextGroup.{TextGroup}
use Rattle.report_lines.specs.Lines.{line_of, tab, text_or_dash, word_space}

-- the line of a group: how many processes it has, their memory, and which is the first of them
abbrev pub group_line : List Row → TextGroup → List ℕ
group_line rows group =
    let first = row_at rows group.first in
    line_of tab
    (codes "stack" ∷ decimal group.count ∷ decimal group.weight ∷ pid_in first ∷ text_or_dash (name_in first) ∷ decimal first.at ∷ [])

-- the lines of a group: that line, and those of the place at which its processes stand
abbrev pub group_lines : List Row → List (List ℕ) → TextGroup → List ℕ
group_lines rows places group = group_line rows group ++ slice_index_or places group.first []

-- the last line: how many groups there are, and how many processes
abbrev pub stacks_line : ℕ → ℕ → List ℕ
stacks_line groups processes = line_of word_space (codes "stacks" ∷ decimal groups ∷ codes "processes" ∷ decimal processes ∷ [])

-- the report of `stacks` on processes with these rows, with at most this many groups
abbrev pub stacks_report : ℕ → List Row → Found → List ℕ
stacks_report most rows found =
    flat_map (group_lines rows found.places) (take most found.groups) ++ stacks_line (length found.groups) (length rows)
