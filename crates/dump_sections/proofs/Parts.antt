-- Where a section of a dump lies.
use Rattle.std.proofs.Common.{◌≡◌, ℕ, zero, suc, ◌<◌, ◌≤◌, List, [], ◌∷◌, slice_get, Some, arith}
use Rattle.dump_sections.specs.Sections.{Section}
use Rattle.dump_sections.specs.Tiling.{Tile}
use Rattle.dump_sections.specs.TilingLaws.{Tile-size}

-- a section begins before its body, whose end is within the bytes
pub Tile-at : (from size : ℕ) (sections : List Section) (i : ℕ) (section : Section) → Tile from size sections → slice_get sections i ≡ Some section
    → (section.at < section.body) × (section.body ≤ section.end) × (section.end ≤ size)
Tile-at from size [] i section tile is = cc
Tile-at from size (first ∷ rest) zero section tile is = grind (arith, Tile-size)
Tile-at from size (first ∷ rest) (suc i) section tile is = Tile-at first.end size rest i section tile.3 is
