-- Hearing where heap lines begin.
use Rattle.std.specs.Prelude.{◌≡◌, ℕ, Bool, true, List, [], ◌∷◌, ◌++◌, Option, None, Some, if◌then◌else◌}
use Rattle.std.specs.List.{filter_map}
use Rattle.std.specs.Option.{option_and_then, option_map}
use Rattle.body_lines.specs.Lines.{CutLine}
use Rattle.term_forms.specs.Words.{led_of}
use Rattle.heap_parts.specs.Tables.{begins_binary}
use Rattle.heap_parts.specs.declared.address_sink.AddressSink.{AddressSink}

-- the address and the offset of a heap line, from what is heard of it
abbrev pub heard_place : CutLine → Option (ℕ × ℕ)
heard_place line = option_map (λ led. (led.0, line.at)) (led_of line.front)

-- the addresses and offsets of the heap lines among these lines
abbrev pub heard_places : List CutLine → List (ℕ × ℕ)
heard_places lines = filter_map heard_place lines

-- whether the text of a form that begins with these bytes may begin as that of a heap binary does
abbrev pub may_begin_binary : List ℕ → Bool
may_begin_binary [] = true
may_begin_binary (c ∷ text) = begins_binary (c ∷ text)

-- the address and the offset of a heap line, if it may be a heap binary by what is heard of it
abbrev pub heard_binary : CutLine → Option (ℕ × ℕ)
heard_binary line = option_and_then (λ led. if may_begin_binary led.1 then Some (led.0, line.at) else None) (led_of line.front)

-- the addresses and offsets of the heap lines among these lines that may be heap binaries
abbrev pub heard_binaries : List CutLine → List (ℕ × ℕ)
heard_binaries lines = filter_map heard_binary lines

-- between two states of the sink the addresses and offsets of these lines were
-- appended, and those of the lines that may be heap binaries once more
pub record TakesPlaces (old new : AddressSink) (lines : List CutLine) : Type 0 where
  pub taken : new.lines.items ≡ old.lines.items ++ heard_places lines
  pub binaries : new.binaries.items ≡ old.binaries.items ++ heard_binaries lines
