-- What a question has read that loads the processes and then looks through their heaps.
use Rattle.std.proofs.Common.{◌++◌, ◌+◌, ◌∙◌, ◌≡◌, ◌≤◌, ap, arith, refl, List, None, ℕ}
use Rattle.dump_io.specs.Dumps.{DeviceState, ReadsAtMost}
use Rattle.dump_io.specs.Limits.{Numbers}
use Rattle.dump_sections.specs.Index.{sections_in, Contents}
use Rattle.dump_sections.specs.Sections.{Section}
use Rattle.dump_sections.specs.Loading.{bodies_length, large_fault}
use Rattle.process_table.specs.Processes.{process_table, Process, ProcessTable}
use Rattle.process_table.specs.Records.{record_sections}
use Rattle.binary_holders.specs.Usage.{pids_of}
use Rattle.dump_questions.specs.Meaning.{Meaning}
use Rattle.dump_questions.specs.Reading.{HasRead, IsIndexed, Takes}
use Rattle.dump_questions.specs.Laws.Reading.{told-on, HasRead-on, IsOfBodies, Takes-on}
use Rattle.stream_commands.specs.Rows.{of_holders}
use Rattle.stream_commands.specs.Inner.Loads.{seen_held}

module _ {A : Type 0} (before : List Section → List Section) (more : Contents → List (List ℕ) → ℕ) (held : List ℕ → Contents → List Process → A)
    (show : Contents → List Process → A → List ℕ) (limits : Numbers) (index : Contents) where
  abbrev means : Meaning
  means = of_holders (record { also = before; more = more; What = A; held = held; show = show })

  -- the question loads its bodies
  pub IsOfBodies-holders : IsOfBodies means limits index
  IsOfBodies-holders = record { there = refl; few = λ bytes. omega arith }

  abbrev bodies : List Section → List Section
  bodies ss = before ss ++ record_sections ss

  -- the processes were loaded, and this is their table
  module _ (old new : DeviceState) (small : large_fault limits.section (bodies (sections_in index)) ≡ None) (table : ProcessTable)
      (loaded : (bytes : List ℕ) → IsIndexed bytes limits index old.now → table ≡ process_table bytes) where
    -- so many bytes were taken for the processes and their heaps
    pub Takes-heard : (count : ℕ) → ReadsAtMost old new count → count ≤ bodies_length (bodies (sections_in index)) + more index (pids_of table.processes)
        → Takes means limits index old new
    Takes-heard count reads few =
        Takes-on means limits index IsOfBodies-holders old new small table process_table loaded
        (λ i t. bodies_length (bodies (sections_in i)) + more i (pids_of t.processes)) count (λ bytes. omega arith) reads few

    -- this is what the processes hold
    pub HasRead-heard : (found : A) → Takes means limits index old new
        → ((bytes : List ℕ) → IsIndexed bytes limits index old.now → found ≡ held bytes index table.processes)
        → HasRead means limits index old new (seen_held index table found)
    HasRead-heard found takes told =
        HasRead-on means limits index IsOfBodies-holders old new small table process_table loaded (seen_held index table found) takes (λ bytes. refl)
        (λ bytes all. ap (seen_held index table) (told bytes all)
        ∙ told-on means limits index IsOfBodies-holders old new small table process_table loaded
        (λ i t. record { index = i; processes = t.processes; held = held bytes i t.processes }) bytes all)
