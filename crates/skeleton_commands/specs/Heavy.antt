-- The report of `heavy`.
use Rattle.std.specs.Prelude.{ℕ, List, [], ◌∷◌, ◌++◌, ◌+◌, length, decimal, codes}
use Rattle.std.specs.List.{enumerate_from, flat_map}
use Rattle.dump_io.specs.Numbers.{hexadecimal}
use Rattle.heap_levels.specs.Levels.{HeavyLevels, KindWeighing, Level, Shape}
use Rattle.heap_levels.specs.declared.kinds.KindRow.{KindRow}
use Rattle.heap_levels.specs.declared.levels.Subject.{Subject}
use Rattle.heap_levels.specs.declared.levels.Subject.TheVariants.{OfCell, OfKind}
use Rattle.heap_weights.specs.declared.shares.Weight.{Weight}
use Rattle.report_lines.specs.Lines.{line_of, tab, total_line}
use Rattle.root_views.specs.declared.kinds.RootKind.{RootKind}
use Rattle.root_views.specs.declared.kinds.RootKind.TheVariants.{Dict, Mail, Stack}
use Rattle.skeleton_commands.specs.Weights.{part_line, weight_line}
use Rattle.text_groups.specs.Sums.{capped}

-- the word of a kind of roots
abbrev pub kind_word : RootKind → List ℕ
kind_word Stack = codes "stack"
kind_word Dict = codes "dict"
kind_word Mail = codes "mail"

-- whose parts a level has: those of the roots of a kind, or those of the cell at an address
abbrev pub subject_text : Subject → List ℕ
subject_text (OfKind kind) = kind_word kind
subject_text (OfCell address) = hexadecimal address

-- the first line of a level: its number, whose parts it has, and what any of these reaches
abbrev pub level_line : ℕ → List ℕ → Weight → List ℕ
level_line number subject reached =
    line_of tab
    (codes "level" ∷ decimal number ∷ subject ∷ decimal (capped reached.words) ∷ decimal reached.cells ∷ decimal reached.binaries ∷ [])

-- the line of a kind of roots, which is a part of level 0: what it alone holds
abbrev pub kind_line : KindRow → List ℕ
kind_line row =
    line_of tab
    (codes "part" ∷ decimal (capped row.weight.words) ∷ decimal row.weight.cells ∷ decimal row.weight.binaries ∷ kind_word row.kind ∷ [])

-- the lines of level 0
abbrev pub zero_lines : KindWeighing → List ℕ
zero_lines zero = level_line 0 (codes "-") zero.reached ++ (flat_map kind_line zero.rows ++ weight_line (codes "shared") zero.shared)

-- the lines of a level below it, which has this number
abbrev pub level_lines : ℕ × Level → List ℕ
level_lines (number, level) =
    level_line number (subject_text level.subject) level.reached
    ++ (flat_map part_line level.rows ++ weight_line (codes "shared") level.shared)

-- the line of a shape: how many parts of the last level have it, and the words that each of these alone holds, together
abbrev pub shape_line : Shape → List ℕ
shape_line shape = line_of tab (codes "shape" ∷ decimal shape.parts ∷ decimal (capped shape.words) ∷ shape.text ∷ [])

-- the report of `heavy`
abbrev pub heavy_report : HeavyLevels → List ℕ
heavy_report levels =
    zero_lines levels.zero
    ++ (flat_map level_lines (enumerate_from 1 levels.below)
    ++ (flat_map shape_line levels.shapes ++ total_line (codes "levels") (capped (1 + length levels.below))))
