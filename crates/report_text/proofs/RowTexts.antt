-- The texts of rows, from the parts in which they are written.
use Rattle.std.proofs.Common.{◌≡◌, ℕ, Bool, true, false, List, [], ◌∷◌, ◌++◌, map, filter, Option, refl, ◌∙◌, ap, append_assoc, append-nil}
use Rattle.std.specs.Prelude.{if◌then◌else◌}
use Rattle.std.specs.List.{flat_map}
use Rattle.field_lines.specs.Lines.{TextLine}
use Rattle.section_rows.specs.Rows.{Kept}
use Rattle.report_lines.specs.Lines.{line_of, newline, tab}
use Rattle.report_text.specs.Inner.Rows.{line_row, next_cell}
use Rattle.report_text.specs.Tables.{cell_text, field_line, has_row}

row-told : (base : ℕ) (line : TextLine) (rows : List TextLine) (b : Bool)
    → (if b then field_line base line else []) ++ flat_map (field_line base) rows ≡ flat_map (field_line base) (if b then line ∷ rows else rows)
row-told base line rows true = refl
row-told base line rows false = refl

-- what is written for all lines is the rows of those that have one
pub rows-told : (base : ℕ) (lines : List TextLine) → flat_map (line_row base) lines ≡ flat_map (field_line base) (filter has_row lines)
rows-told base [] = refl
rows-told base (line ∷ lines) = ap (λ text. line_row base line ++ text) (rows-told base lines) ∙ row-told base line (filter has_row lines) (has_row line)

-- a text, the cells behind it, and the end of the line are a line
pub cells-told : (text : List ℕ) (cells : List (Option Kept)) → text ++ (flat_map next_cell cells ++ newline) ≡ line_of tab (text ∷ map cell_text cells)
cells-told text [] = refl
cells-told text (cell ∷ cells) =
    ap (λ rest. text ++ (tab ++ rest))
    (ap (λ t. (t ++ flat_map next_cell cells) ++ newline) (append-nil (cell_text cell)) ∙ append_assoc (cell_text cell) (flat_map next_cell cells) newline
    ∙ cells-told (cell_text cell) cells)
