-- The numbers that ids write.
use Rattle.std.specs.Prelude.{ℕ, List, Option, None, codes, if◌then◌else◌}
use Rattle.std.specs.Option.{option_and_then}
use Rattle.std.specs.Str.{bytes_eq}
use Rattle.dump_io.specs.Numbers.{hex_number}

-- the number of a section with this tag and id: the id in hex, if the tag is `binary`
abbrev pub number_with : List ℕ → Option (List ℕ) → Option ℕ
number_with tag id = if bytes_eq tag (codes "binary") then option_and_then hex_number id else None
