-- A dump that is held in memory.
use Rattle.std.specs.Prelude.{◌≡◌, ℕ, ◌≤◌, List, [], All}
use Rattle.dump_io.specs.Dumps.{Now, told}
use Rattle.dump_io.specs.Limits.{Numbers, usual}
use Rattle.dump_sections.specs.Bodies.{body_length}
use Rattle.section_index.specs.Opening.{IsAccepted}
use Rattle.dump_sections.specs.Sections.{sections}
use Rattle.heap_cells.specs.DumpHeaps.{heap_weight}

-- the bytes of a dump are accepted under the usual limits, and no body and no heap of it exceeds one
pub record IsGood (bytes : List ℕ) : Type 0 where
  pub accepted : IsAccepted bytes usual
  pub bodies : All (λ section. body_length section ≤ usual.section) (sections bytes)
  pub heaps : (pid : List ℕ) → heap_weight pid bytes ≤ usual.dense

-- the bytes of what is open, if the device tells them
abbrev pub bytes_in : Now → List ℕ
bytes_in (told bytes) = bytes
bytes_in now = []

-- a good dump is open, and the limits are the usual ones
pub record IsOpened (now : Now) (limits : Numbers) : Type 0 where
  pub opened : now ≡ told (bytes_in now)
  pub good : IsGood (bytes_in now)
  pub bounds : limits ≡ usual
