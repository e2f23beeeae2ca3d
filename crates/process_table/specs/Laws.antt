-- Laws of the definitions, each with its proof, for the proofs of callers.
use Rattle.std.proofs.Common.{◌≡◌, ℕ, ◌<◌, List, [], ◌∷◌, Some, filter, length, not, arith}
use Rattle.std.specs.Prelude.{All}
use Rattle.std.specs.List.{slice_get}
use Rattle.std.proofs.lemmas.List.Elements.{All-nil, All-cons, All-head, All-tail, All-filter}
use Rattle.dump_io.specs.Dumps.{Now, told}
use Rattle.dump_io.specs.Laws.Lists.{slice_get-there}
use Rattle.dump_sections.specs.Index.{Contents, sections_in, IsBuiltOver}
use Rattle.dump_sections.specs.Sections.{sections}
use Rattle.process_table.specs.Processes.{Process, nobody, process_at}
use Rattle.process_table.specs.Records.{PlacedSection, has_same_pid, first_of_each}

-- what holds of all sections holds of the first of each process
pub All-first_of_each : (P : PlacedSection → Type 0) (sections : List PlacedSection) → All P sections → All P (first_of_each sections)
All-first_of_each P [] all = All-nil P
All-first_of_each P (p ∷ rest) all =
    All-cons P p (filter (λ other. not (has_same_pid p other)) (first_of_each rest)) (All-head P p rest all)
    (All-filter (λ other. not (has_same_pid p other)) P (first_of_each rest) (All-first_of_each P rest (All-tail P p rest all)))

-- the process at a place is there
pub process_at-there : (processes : List Process) (p : ℕ) → p < length processes → slice_get processes p ≡ Some (process_at processes p)
process_at-there processes p inside = slice_get-there processes p nobody inside

-- the sections of an index over bytes that are told are those of the bytes
pub sections_told : (now : Now) (index : Contents) (bytes : List ℕ) → IsBuiltOver now index → now ≡ told bytes → sections_in index ≡ sections bytes
sections_told now index bytes over same = grind arith
