-- The sections of a dump lie one after another.
use Rattle.std.specs.Prelude.{◌≡◌, ℕ, ◌<◌, ◌≤◌, List, [], ◌∷◌}
use Rattle.dump_sections.specs.Sections.{Section}

-- the sections tile the bytes from an offset to the size: each begins where the one
-- before it ends, its header's line stands before its body, and the last ends at the size
abbrev pub Tile : ℕ → ℕ → List Section → Type 0
Tile from size [] = from ≡ size
Tile from size (section ∷ rest) =
    (section.at ≡ from) × (section.at < section.body) × (section.body ≤ section.end) × Tile section.end size rest
