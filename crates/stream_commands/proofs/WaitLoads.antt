-- What `waits` has read: the processes, where they stand, and for whom they wait.
use Rattle.std.proofs.Common.{◌≡◌, ◌≤◌, ◌+◌, ◌∙◌, ap, ap₂, arith, refl, List, None, Option, ℕ}
use Rattle.dump_io.specs.Dumps.{DeviceState, ReadsAtMost}
use Rattle.dump_io.specs.Limits.{Numbers}
use Rattle.dump_sections.specs.Index.{sections_in, Contents}
use Rattle.dump_sections.specs.Loading.{bodies_length, large_fault}
use Rattle.process_table.specs.Processes.{process_table, ProcessTable}
use Rattle.process_table.specs.Records.{record_sections}
use Rattle.process_table.specs.Stands.{stand_rows}
use Rattle.section_rows.specs.Rows.{Row}
use Rattle.wait_requests.specs.Waits.{targets_of, waits_length}
use Rattle.dump_questions.specs.Reading.{HasRead, IsIndexed, Takes}
use Rattle.dump_questions.specs.Laws.Reading.{told-on, HasRead-on, IsOfBodies, Takes-on}
use Rattle.stream_commands.specs.Rows.{waits_row}
use Rattle.stream_commands.specs.Inner.Waits.{seen_waits}

module _ (most : ℕ) (limits : Numbers) (index : Contents) where
  -- the question loads its bodies
  pub IsOfBodies-waits : IsOfBodies (waits_row most) limits index
  IsOfBodies-waits = record { there = refl; few = λ bytes. omega arith }

  -- the processes were loaded, and this is their table and where they stand
  module _ (old new : DeviceState) (small : large_fault limits.section (record_sections (sections_in index)) ≡ None) (table : ProcessTable) (stands : List Row)
      (told_table : (bytes : List ℕ) → IsIndexed bytes limits index old.now → table ≡ process_table bytes)
      (told_stands : (bytes : List ℕ) → IsIndexed bytes limits index old.now → stands ≡ stand_rows bytes) where
    abbrev Read : Type 0
    Read = ProcessTable × List Row

    abbrev read_in : List ℕ → Read
    read_in bytes = (process_table bytes, stand_rows bytes)

    loaded : (bytes : List ℕ) → IsIndexed bytes limits index old.now → (table, stands) ≡ read_in bytes
    loaded bytes all = ap₂ (λ (t : ProcessTable) (r : List Row). (t, r)) (told_table bytes all) (told_stands bytes all)

    -- so many bytes were taken for them and for what they hold
    pub Takes-waits : (count : ℕ) → ReadsAtMost old new count → count ≤ bodies_length (record_sections (sections_in index)) + waits_length index table.processes
        → Takes (waits_row most) limits index old new
    Takes-waits count reads few =
        Takes-on (waits_row most) limits index IsOfBodies-waits old new small (table, stands) read_in loaded
        (λ i r. bodies_length (record_sections (sections_in i)) + waits_length i r.0.processes) count (λ bytes. omega arith) reads few

    -- for these the processes wait
    pub HasRead-waits : (targets : List (Option (List ℕ))) → Takes (waits_row most) limits index old new
        → ((bytes : List ℕ) → IsIndexed bytes limits index old.now → targets ≡ targets_of bytes index table.processes)
        → HasRead (waits_row most) limits index old new (seen_waits index table stands targets)
    HasRead-waits targets takes told =
        HasRead-on (waits_row most) limits index IsOfBodies-waits old new small (table, stands) read_in loaded (seen_waits index table stands targets) takes (λ bytes. refl)
        (λ bytes all. ap (seen_waits index table stands) (told bytes all)
        ∙ told-on (waits_row most) limits index IsOfBodies-waits old new small (table, stands) read_in loaded
        (λ i r. seen_waits i r.0 r.1 (targets_of bytes i r.0.processes)) bytes all)
