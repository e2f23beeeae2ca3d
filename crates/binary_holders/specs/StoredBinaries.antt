-- The binaries outside the heaps, which are in `binary` sections.
use Rattle.std.specs.Prelude.{ℕ, Bool, ◌==◌, List, [], ◌∷◌, Option, option_map, if◌then◌else◌}
use Rattle.std.specs.List.{filter_map, list_any}
use Rattle.dump_sections.specs.Bodies.{body_of}
use Rattle.dump_sections.specs.Sections.{Section}
use Rattle.binary_refs.specs.StoredBinaries.{binary_number, size_stated}

-- a binary: its number, and its section
pub record Stored : Type 0 where
  pub number : ℕ
  pub section : Section

-- the binary with this section and this number
abbrev pub stored_at : Section → ℕ → Stored
stored_at section number = record { number = number; section = section }

-- the binary of a section that has one
abbrev pub stored_binary : Section → Option Stored
stored_binary section = option_map (stored_at section) (binary_number section)

-- whether a number is one of these
abbrev pub is_among : List ℕ → ℕ → Bool
is_among numbers number = list_any (λ n. n == number) numbers

-- the binaries whose number is none of those seen, and isn't that of a binary before them
abbrev pub firsts : List ℕ → List Stored → List Stored
firsts seen [] = []
firsts seen (binary ∷ rest) =
    let later = firsts (binary.number ∷ seen) rest in if is_among seen binary.number then firsts seen rest else binary ∷ later

-- the stored binaries, in dump order: the first of the sections with each number
abbrev pub stored : List Section → List Stored
stored sections = firsts [] (filter_map stored_binary sections)

-- the size of a stored binary, from the bytes of a dump
abbrev pub size_in : List ℕ → Stored → ℕ
size_in dump binary = size_stated (body_of dump binary.section)
