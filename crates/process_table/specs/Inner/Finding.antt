-- Finding processes one section after another.
use Rattle.std.specs.Prelude.{◌≡◌, ℕ, ◌+◌, ◌-◌, ◌<◌, ◌≤◌, Bool, true, List, [], ◌∷◌, ◌++◌, length, map, slice_get, slice_index_or, position, Option, None, Some, Contains, codes, if◌then◌else◌}
use Rattle.std.specs.BTreeMap.{BTreeMap, get_by}
use Rattle.std.specs.Cmp.Lexicographic.{slice_cmp}
use Rattle.std.specs.Global.{Vec}
use Rattle.std.specs.List.Sorted.{IsNonDecreasingBy, IsStrictlySortedBy}
use Rattle.std.specs.Option.{option_map_or}
use Rattle.std.specs.Ordering.{is_lt, nat_cmp, ordering_index, ordering_then}
use Rattle.std.specs.declared.cmp.Ordering.{Ordering}
use Rattle.std.specs.Str.{bytes_eq}
use denote.Ref.{Bor}
use Rattle.dump_io.specs.Limits.{usual}
use Rattle.dump_sections.specs.Bodies.{section_at}
use Rattle.dump_sections.specs.Index.{Contents}
use Rattle.dump_sections.specs.Lookups.{has_tag}
use Rattle.dump_sections.specs.Sections.{Section, id_of}
use Rattle.process_table.specs.declared.first_by_pid.Found.{Found}
use Rattle.process_table.specs.declared.pids.PidOrder.{PidOrder}
use Rattle.process_table.specs.declared.pids.PidOrder.TheVariants.{Rising, Ranked}
use Rattle.process_table.specs.declared.pids.PidPlace.{PidPlace}
use Rattle.process_table.specs.Records.{PlacedSection, is_process, process_sections, first_of_each, named_place}

-- the pid, if the section is that of a process
abbrev pub pid_in : Section → Option (List ℕ)
pid_in s = if has_tag (codes "proc") s.text then id_of s.text else None

-- each pid with the place of its section
abbrev pub named_places : List PidPlace → List (List ℕ × ℕ)
named_places places = map (λ place. (place.pid.items, place.section)) places

-- the places of the sections
abbrev pub sections_of : List PidPlace → List ℕ
sections_of places = map (λ place. place.section) places

-- whether a place is that of a section with this pid
abbrev pub has_pid : List ℕ → PidPlace → Bool
has_pid pid place = bytes_eq pid place.pid.items

-- the pid with a number; past the last one, an empty text
abbrev pub pid_at : List PidPlace → ℕ → List ℕ
pid_at places number = option_map_or (λ place. place.pid.items) (slice_get places number) []

-- no pid occurs before its own place
abbrev pub AreOwn : List PidPlace → Type 0
AreOwn places = (number : ℕ) (place : PidPlace) → slice_get places number ≡ Some place → position (has_pid place.pid.items) places ≡ Some number

-- the tree maps each pid to its number
pub record AreNumbered (numbers : BTreeMap (Bor (List ℕ)) ℕ) (places : List PidPlace) : Type 0 where
  pub own : AreOwn places
  pub found : (pid : List ℕ) → get_by (λ key. slice_cmp nat_cmp pid key.now) numbers ≡ position (has_pid pid) places

-- how pids compare where they rise: a shorter one is less, and
-- of two with the same length the one whose bytes are less
abbrev pub rising_cmp : List ℕ → List ℕ → Ordering
rising_cmp pid other = ordering_then (nat_cmp (length pid) (length other)) (slice_cmp nat_cmp pid other)

-- each pid is greater than those before it
abbrev pub AreRising : List PidPlace → Type 0
AreRising places = IsStrictlySortedBy (λ a b. rising_cmp a.pid.items b.pid.items) places

-- whether a pid is greater than the last one, if there is one
abbrev pub is_behind : List PidPlace → List ℕ → Bool
is_behind places pid = option_map_or (λ last. is_lt (rising_cmp last.pid.items pid)) (slice_get places (length places - 1)) true

-- a pid and the place of its section were appended
pub record HasGained (before after : List PidPlace) (pid : List ℕ) (section : ℕ) : Type 0 where
  pub place : PidPlace
  pub same_pid : place.pid.items ≡ pid
  pub same_section : place.section ≡ section
  pub behind : after ≡ before ++ place ∷ []

-- the numbers of all pids, in the order of their bytes
pub record AreRanked (places : List PidPlace) (order : List ℕ) : Type 0 where
  pub rising : (pid : List ℕ) → IsNonDecreasingBy (λ number. ordering_index (slice_cmp nat_cmp (pid_at places number) pid)) order
  pub known : (k d : ℕ) → k < length order → position (has_pid (pid_at places (slice_index_or order k d))) places ≡ Some (slice_index_or order k d)
  pub all : (pid : List ℕ) (number : ℕ) → position (has_pid pid) places ≡ Some number → Contains order number

-- the order of the pids: they rise as they stand, or their numbers are ranked
abbrev pub IsOrderOf : List PidPlace → PidOrder → Type 0
IsOrderOf places Rising = AreRising places
IsOrderOf places (Ranked order) = AreRanked places order.items

-- each pid is at its own place, and this is their order
pub record AreOrdered (places : List PidPlace) (order : PidOrder) : Type 0 where
  pub own : AreOwn places
  pub kept : IsOrderOf places order

-- these are the places of the sections, of which there are no
-- more than an index has sections, and the pids are in order
pub record AreListed (places : List PidPlace) (order : PidOrder) (sections : List ℕ) : Type 0 where
  pub listed : sections ≡ sections_of places
  pub count : length places ≤ usual.sections
  pub ordered : AreOrdered places order

-- these are the first sections of the processes among some sections, and the number of their further sections
pub record AreFound (found : Found) (among : List PlacedSection) : Type 0 where
  pub records : named_places found.places.items ≡ map named_place (first_of_each (process_sections among))
  pub all : found.repeated + length found.places.items ≡ length (process_sections among)

-- what was found if no section was passed over
abbrev pub found_rising : Vec PidPlace → Found
found_rising places = record { places = places; repeated = 0 }

-- these are all sections of processes among some sections, and their pids rise
pub record AreFoundRising (places : Vec PidPlace) (among : List PlacedSection) : Type 0 where
  pub rising : AreRising places.items
  pub found : AreFound (found_rising places) among

-- the record is that of a process, and of a section of the index at its place
pub record IsRecordOf (index : Contents) (r : PlacedSection) : Type 0 where
  pub place : r.0 < length index.headers
  pub section : section_at index r.0 ≡ r.1
  pub process : is_process r.1 ≡ true
