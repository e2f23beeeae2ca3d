-- The rows of binaries, one after another.
use Rattle.std.specs.Prelude.{◌≡◌, ℕ, ◌<◌, List, length, slice_index, slice_index_or}
use Rattle.dump_sections.specs.Bodies.{section_at}
use Rattle.dump_sections.specs.Index.{Contents}
use Rattle.binary_holders.specs.declared.rows.BinaryRow.{BinaryRow}
use Rattle.binary_holders.specs.declared.targets.Binary.{Binary}
use Rattle.binary_holders.specs.declared.stored.StoredAt.{StoredAt}

-- the row of a binary with this many holders
abbrev pub row_at : Contents → StoredAt → Binary → ℕ → BinaryRow
row_at index stored binary holders = record { size = binary.size; holders = holders; number = stored.number; at = (section_at index stored.section).at }

-- the rows of the first n binaries
pub record AreRows (index : Contents) (stored : List StoredAt) (binaries : List Binary) (holders : List ℕ) (n : ℕ) (rows : List BinaryRow) : Type 0 where
  pub count : length rows ≡ n
  pub each : (k : ℕ) (d : BinaryRow) (s : StoredAt) (b : Binary) → k < n
      → slice_index_or rows k d ≡ row_at index (slice_index_or stored k s) (slice_index_or binaries k b) (slice_index holders k)
