-- What stands out in a dump.
use Rattle.std.specs.Prelude.{ℕ, ◌-◌, ◌^◌, List, map, take, length, codes, count_by, nat_lt, unwrap_or, Option, None, Some, if◌then◌else◌, ◌+◌, ◌*◌, ◌<◌, Bool, [], ◌++◌, filter, is_some, All}
use Rattle.std.specs.List.{enumerate_from}
use Rattle.std.specs.Option.{option_and_then, option_map}
use Rattle.std.specs.Str.{bytes_eq}
use Rattle.dump_sections.specs.Index.{Contents}
use Rattle.section_rows.specs.Rows.{Row, cell_at, text_in, Kept, row_at}
use Rattle.process_table.specs.Numbers.{binary_bytes, stated_number}
use Rattle.process_table.specs.Processes.{Process}
use Rattle.process_table.specs.Signals.{is_signalled}
use Rattle.process_table.specs.Stands.{spawned_in, where_in}
use Rattle.text_groups.specs.Cut.{cut_text}
use Rattle.text_groups.specs.Groups.{Item, groups}
use Rattle.text_groups.specs.Sorting.{most_first}
use Rattle.text_groups.specs.declared.text_group.TextGroup.{TextGroup}
use Rattle.dump_audit.specs.Findings.{audit_of, findings}
use Rattle.dump_audit.specs.Flight.{in_flight}
use Rattle.dump_audit.specs.declared.finding.Finding.{Finding}
use Rattle.dump_triage.specs.FindingCounts.{counts_of}
use Rattle.dump_triage.specs.Ranking.{AreWithin, largest}
use Rattle.dump_triage.specs.declared.finding_counts.FindingCounts.{FindingCounts}
use Rattle.dump_triage.specs.declared.ranked.Ranked.{Ranked}

-- ---- states

-- the text of a process's state, which is `-` if there is none
abbrev pub process_state_text : Process → List ℕ
process_state_text process = unwrap_or (text_in process.state) (codes "-")

-- the texts of the states of processes
abbrev pub state_texts : List Process → List (List ℕ)
state_texts processes = map process_state_text processes

-- how many of some texts are this one
abbrev pub text_count : List (List ℕ) → List ℕ → ℕ
text_count texts text = count_by (bytes_eq text) texts

-- how often the text at a place occurs in the list, given only at the first of its places
abbrev pub count_at_first : List (List ℕ) → ℕ × List ℕ → Option ℕ
count_at_first texts (place, text) = if nat_lt 0 (text_count (take place texts) text) then None else Some (text_count texts text)

-- the states that most processes are in: for each the first process in it, and how many processes are
abbrev pub commonest_states : ℕ → List Process → List Ranked
commonest_states most processes = largest most (count_at_first (state_texts processes)) (state_texts processes)

-- ---- numbers of processes and tables

-- the processes with the longest message queues
abbrev pub longest_queues : ℕ → List Process → List Ranked
longest_queues most processes = largest most (λ item. stated_number item.1.queue) processes

-- the processes with the most memory, in bytes
abbrev pub largest_processes : ℕ → List Process → List Ranked
largest_processes most processes = largest most (λ item. stated_number item.1.memory) processes

-- a word of a node of 64 bits has eight bytes
abbrev pub bytes_of : ℕ → ℕ
bytes_of words = 8 * words

-- the processes whose binaries take the most bytes
abbrev pub most_binaries : ℕ → List Process → List Ranked
most_binaries most processes = largest most (λ item. Some (binary_bytes item.1)) processes

-- the words of an ETS table, in the last of its columns
abbrev pub words_in : Row → Option ℕ
words_in row = stated_number (cell_at row 4)

-- the ETS tables with the most bytes
abbrev pub largest_tables : ℕ → List Row → List Ranked
largest_tables most rows = largest most (λ item. option_map bytes_of (words_in item.1)) rows

-- ---- groups of processes, and of ports

-- a text as it is shown, at most its first 255 bytes, or `-` if there is none
abbrev pub shown_text : Option (List ℕ) → List ℕ
shown_text text = cut_text (unwrap_or text (codes "-"))

-- where a process stands, and as what it was spawned: two texts as one key, between which an LF stands, since no value has one
abbrev pub stand_text : Row → List ℕ
stand_text row = shown_text (where_in row) ++ (codes "\n" ++ shown_text (spawned_in row))

-- a process as it is grouped: by where it stands, with its memory in bytes, or 0 where that isn't a number
abbrev pub stand_item : List Row → ℕ × Process → Item
stand_item stands (p, process) = record { text = stand_text (row_at stands p); weight = unwrap_or (stated_number process.memory) 0 }

-- the processes as they are grouped
abbrev pub stand_items : List Process → List Row → List Item
stand_items processes stands = map (stand_item stands) (enumerate_from 0 processes)

-- the first of some groups, at most `most`: the largest comes first, and of equal ones that whose first item comes first
abbrev pub first_groups : ℕ → List TextGroup → List TextGroup
first_groups most found = take most (most_first (λ group. group.count) found)

-- whether a group has more than one item
abbrev pub is_several : TextGroup → Bool
is_several group = nat_lt 1 group.count

-- the largest groups of processes that stand at the same place and were spawned as the same
abbrev pub largest_groups : ℕ → List Process → List Row → List TextGroup
largest_groups most processes stands = first_groups most (filter is_several (groups (stand_items processes stands)))

-- a port as it is grouped: by the line that says what it is, which is the second of its columns; without one by an empty text
abbrev pub port_item : Row → Item
port_item row = record { text = cut_text (unwrap_or (text_in (cell_at row 1)) []); weight = 0 }

-- whether the ports of a group have such a line
abbrev pub has_use : List Row → TextGroup → Bool
has_use ports group = is_some (text_in (cell_at (row_at ports group.first) 1))

-- the largest groups of ports that are the same; ports of which no line says what they are belong to none
abbrev pub largest_ports : ℕ → List Row → List TextGroup
largest_ports most ports = first_groups most (filter (has_use ports) (groups (map port_item ports)))

-- ---- all that stands out

-- what stands out: rows of places of processes and of tables, groups of processes and of ports,
-- numbers of findings, and how many of these are in flight
pub record Triaged : Type 0 where
  pub states : List Ranked
  pub groups : List TextGroup
  pub queues : List Ranked
  pub memory : List Ranked
  pub binaries : List Ranked
  pub tables : List Ranked
  pub ports : List TextGroup
  pub findings : FindingCounts
  pub in_flight : FindingCounts

-- the findings of an audit that isn't full and that finds no message queue too long
abbrev pub found_in : Contents → List Process → List Finding
found_in index processes = findings (audit_of index processes (2 ^ 64 - 1) None)

-- what stands out in a dump with this index, these processes and where they stand, these ETS tables and
-- these ports, with at most this many rows of each kind; message queues are judged by no limit
abbrev pub triage_of : Contents → List Process → List Row → List Row → List Row → ℕ → Triaged
triage_of index processes stands tables ports most = record {
  states = commonest_states most processes;
  groups = largest_groups most processes stands;
  queues = longest_queues most processes;
  memory = largest_processes most processes;
  binaries = most_binaries most processes;
  tables = largest_tables most tables;
  ports = largest_ports most ports;
  findings = counts_of (found_in index processes);
  in_flight = counts_of (in_flight (map is_signalled stands) (found_in index processes));
}

-- the groups name places of a list of this length
abbrev pub AreGroupsWithin : ℕ → List TextGroup → Type 0
AreGroupsWithin count found = All (λ group. group.first < count) found

-- the rows name places of these processes, of these tables and of these ports
pub record FitsTriage (processes : List Process) (ets uses : List Row) (triage : Triaged) : Type 0 where
  pub states : AreWithin (length processes) triage.states
  pub groups : AreGroupsWithin (length processes) triage.groups
  pub queues : AreWithin (length processes) triage.queues
  pub memory : AreWithin (length processes) triage.memory
  pub binaries : AreWithin (length processes) triage.binaries
  pub tables : AreWithin (length ets) triage.tables
  pub ports : AreGroupsWithin (length uses) triage.ports
