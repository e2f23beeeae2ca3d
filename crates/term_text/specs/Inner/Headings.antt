-- The beginning of a root's line.
use Rattle.std.specs.Prelude.{ℕ, ◌+◌, List, [], ◌∷◌, decimal}
use Rattle.std.specs.List.{concat}
use Rattle.root_views.specs.Roots.{BodyRoot}
use Rattle.report_lines.specs.Lines.{word_space}

-- the offset of a root, given where its body begins, and its label
abbrev pub root_heading : ℕ → BodyRoot → List ℕ
root_heading base root = concat (decimal (base + root.at) ∷ word_space ∷ root.label ∷ word_space ∷ [])
