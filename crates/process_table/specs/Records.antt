-- Which sections of a dump are its processes.
use Rattle.std.specs.Prelude.{ℕ, ◌-◌, Bool, ◌&&◌, not, List, [], ◌∷◌, length, map, filter, is_some, unwrap_or, codes}
use Rattle.std.specs.List.{enumerate_from}
use Rattle.std.specs.Str.{bytes_eq}
use Rattle.dump_sections.specs.Lookups.{has_tag}
use Rattle.dump_sections.specs.Sections.{Section, id_of}

-- a section and its place among the sections of the dump, from 0
abbrev pub PlacedSection : Type 0
PlacedSection = ℕ × Section

-- each section with its place
abbrev pub placed_sections : List Section → List PlacedSection
placed_sections sections = enumerate_from 0 sections

-- the section of a process has the tag `proc` and an id, which is the pid
abbrev pub is_process : Section → Bool
is_process s = has_tag (codes "proc") s.text && is_some (id_of s.text)

-- the pid of a process's section is its id
abbrev pub pid_of : Section → List ℕ
pid_of s = unwrap_or (id_of s.text) []

-- the sections of processes, in the order of the dump
abbrev pub process_sections : List PlacedSection → List PlacedSection
process_sections sections = filter (λ p. is_process p.1) sections

-- pids are the same if they are so byte for byte
abbrev pub has_same_pid : PlacedSection → PlacedSection → Bool
has_same_pid p other = bytes_eq (pid_of p.1) (pid_of other.1)

-- the first of the sections with each pid
abbrev pub first_of_each : List PlacedSection → List PlacedSection
first_of_each [] = []
first_of_each (p ∷ rest) = p ∷ filter (λ other. not (has_same_pid p other)) (first_of_each rest)

-- the records of the process table, in dump order: the first section of each process
abbrev pub records : List Section → List PlacedSection
records sections = first_of_each (process_sections (placed_sections sections))

-- the sections of the records
abbrev pub record_sections : List Section → List Section
record_sections sections = map (λ r. r.1) (records sections)

-- how many sections of processes were passed over
abbrev pub repeated : List Section → ℕ
repeated sections = length (process_sections (placed_sections sections)) - length (records sections)

-- the pid of a record, with the place of its section
abbrev pub named_place : PlacedSection → List ℕ × ℕ
named_place r = (pid_of r.1, r.0)

-- where the processes are: the pid and the section's place of each, and how many sections were passed over
pub record ProcPlaces : Type 0 where
  pub places : List (List ℕ × ℕ)
  pub repeated : ℕ

-- the processes of these sections, whatever their bodies hold
abbrev pub proc_places : List Section → ProcPlaces
proc_places sections = record { places = map named_place (records sections); repeated = repeated sections }
