-- What a caller sees of the answers.
use Rattle.std.specs.Prelude.{ℕ, List, Option, None, Some}
use Rattle.field_lines.specs.declared.shapes.Line.{Line}
use Rattle.field_lines.specs.Lines.{TextLine}
use Rattle.field_lines.specs.Fields.{Field}
use denote.Ref.{Bor}

-- a line with its text as a list
abbrev pub shown_line : Line → TextLine
shown_line line = record { at = line.at; text = line.text.now }

-- a key and a value as lists
abbrev pub shown_field : Option (Bor (List ℕ) × Bor (List ℕ)) → Option Field
shown_field None = None
shown_field (Some field) = Some (record { key = field.0.now; value = field.1.now })
