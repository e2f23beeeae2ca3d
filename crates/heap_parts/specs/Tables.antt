-- The table of the heap lines of a body.
use Rattle.std.specs.Prelude.{◌≡◌, ℕ, ◌+◌, ◌==◌, Bool, false, List, [], ◌∷◌, length, codes, Option, None, Some, IsSome, if◌then◌else◌}
use Rattle.std.specs.List.{filter_map}
use Rattle.std.specs.Option.{option_and_then}
use Rattle.std.specs.Ordering.{nat_cmp}
use Rattle.dump_io.specs.Letters.{letter}
use Rattle.dump_sections.specs.Places.{place_by}
use Rattle.field_lines.specs.Lines.{TextLine, text_lines}
use Rattle.heap_cells.specs.Places.{placed_lines, place_with}
use Rattle.term_forms.specs.Words.{led_of}

-- whether the text of a form begins with `Y`, as that of a heap binary does
abbrev pub begins_binary : List ℕ → Bool
begins_binary [] = false
begins_binary (c ∷ text) = c == letter (codes "Y")

-- a heap line's address and the line's offset, if the text of its form begins so
abbrev pub binary_line : ℕ → TextLine → Option (ℕ × ℕ)
binary_line base line = option_and_then (λ led. if begins_binary led.1 then Some (led.0, base + line.at) else None) (led_of line.text)

-- the addresses and offsets of all such lines of a body
abbrev pub binary_lines : ℕ → List ℕ → List (ℕ × ℕ)
binary_lines base body = filter_map (binary_line base) (text_lines body)

-- addresses with the offsets at which their lines begin; those of the lines that may
-- be heap binaries once more; and how many heap lines there are
pub record Table : Type 0 where
  pub places : List (ℕ × ℕ)
  pub binaries : List (ℕ × ℕ)
  pub count : ℕ

-- of each address the table has the offset of the first heap line with it, in a body
-- that begins at the base; it tells each address of a line whose form begins as that of
-- a heap binary does; and it has the number of that body's heap lines
pub record IsTableOf (base : ℕ) (body : List ℕ) (table : Table) : Type 0 where
  pub places : (address : ℕ) → place_by nat_cmp address table.places ≡ place_with (placed_lines base body) address
  pub binaries : (address : ℕ) → IsSome (place_with (binary_lines base body) address) → IsSome (place_by nat_cmp address table.binaries)
  pub count : table.count ≡ length (placed_lines base body)
