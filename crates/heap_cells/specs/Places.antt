-- Where the heap lines of a body stand.
use Rattle.std.specs.Prelude.{ℕ, ◌+◌, ◌==◌, List, find, Option}
use Rattle.std.specs.List.{filter_map}
use Rattle.std.specs.Option.{option_map}
use Rattle.field_lines.specs.Lines.{TextLine, text_lines}
use Rattle.term_forms.specs.Words.{led_of}

-- a heap line's address, and the offset of the line if its body begins at the base
abbrev pub placed_line : ℕ → TextLine → Option (ℕ × ℕ)
placed_line base line = option_map (λ led. (led.0, base + line.at)) (led_of line.text)

-- the addresses and offsets of all heap lines of a body
abbrev pub placed_lines : ℕ → List ℕ → List (ℕ × ℕ)
placed_lines base body = filter_map (placed_line base) (text_lines body)

-- the offset of the first of these lines with an address
abbrev pub place_with : List (ℕ × ℕ) → ℕ → Option ℕ
place_with places address = option_map (λ p. p.1) (find (λ p. p.0 == address) places)
