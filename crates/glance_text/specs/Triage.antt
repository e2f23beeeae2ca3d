-- The report of `triage`. Offsets are of the file.
use Rattle.std.specs.Prelude.{ℕ, zero, suc, ◌-◌, ◌==◌, Bool, false, ◌&&◌, not, nat_lt, List, [], ◌∷◌, ◌++◌, drop, length, position, decimal, codes, Option, None, Some, if◌then◌else◌}
use Rattle.std.specs.List.{flat_map}
use Rattle.std.specs.Option.{option_map_or}
use Rattle.std.specs.Str.{bytes_eq}
use Rattle.dump_io.specs.Colons.{has_colon}
use Rattle.text_groups.specs.Sums.{capped}
use Rattle.field_lines.specs.declared.shapes.FieldAt.{FieldAt}
use Rattle.field_lines.specs.Fields.{find_field, key_of, value_of}
use Rattle.field_lines.specs.Lines.{TextLine, text_lines}
use Rattle.dump_sections.specs.Index.{Contents, sections_in, dump_state}
use Rattle.dump_sections.specs.Sections.{Section}
use Rattle.dump_sections.specs.declared.index.State.{State}
use Rattle.dump_sections.specs.declared.index.State.TheVariants.{Whole, TruncatedIn}
use Rattle.section_rows.specs.Rows.{Row, cell_at, row_at, text_in}
use Rattle.process_table.specs.Processes.{Process, ProcessTable, process_at}
use Rattle.process_table.specs.Stands.{spawned_in, where_in}
use Rattle.text_groups.specs.Cut.{cut_text}
use Rattle.text_groups.specs.declared.text_group.TextGroup.{TextGroup}
use Rattle.dump_triage.specs.Triage.{Triaged, shown_text}
use Rattle.dump_triage.specs.declared.finding_counts.FindingCounts.{FindingCounts}
use Rattle.dump_triage.specs.declared.ranked.Ranked.{Ranked}
use Rattle.report_lines.specs.Lines.{line_of, tab}
use Rattle.report_text.specs.Reports.{info_heading, version_text}
use Rattle.report_lines.specs.States.{state_line}
use Rattle.report_text.specs.Tables.{cell_text, process_end, processes_line}

-- the line of a field of the `memory` section; a line without a colon has none
abbrev pub memory_line : TextLine → List ℕ
memory_line line =
    if has_colon line.text then line_of tab (codes "memory" ∷ key_of line.text ∷ value_of line.text ∷ []) else []

-- whether a line of a body is the first field with the key `Slogan`, by where it stands
abbrev pub is_slogan : Option FieldAt → TextLine → Bool
is_slogan slogan line = option_map_or (λ field. field.at == line.at) slogan false

-- the line of a line of the first section's body: its whole text; what is empty, and the slogan, have none
abbrev pub dump_line : Option FieldAt → TextLine → List ℕ
dump_line slogan line =
    if nat_lt 0 (length line.text) && not (is_slogan slogan line) then line_of tab (codes "dump" ∷ line.text ∷ []) else []

-- the lines of the first section's body, but that of its slogan
abbrev pub dump_lines : List ℕ → List ℕ
dump_lines body = flat_map (dump_line (find_field body (codes "Slogan"))) (text_lines body)

-- the first lines: those of `info`, the others of the first section, the memory of the node, and how many processes there are
abbrev pub triage_heading : Contents → List ℕ → List ℕ → ProcessTable → List ℕ
triage_heading index first_body memory_body table =
    info_heading (version_text index.version) index.size (length index.headers) first_body
    ++ (dump_lines first_body
    ++ (flat_map memory_line (text_lines memory_body) ++ processes_line (length table.processes) table.repeated))

-- the number of a row, as it is shown
abbrev pub number_text : Ranked → List ℕ
number_text row = decimal (capped row.number)

-- the line of a state: how many processes are in it, and which of them is the first
abbrev pub state_count_line : Contents → List Process → Ranked → List ℕ
state_count_line index processes row =
    let process = process_at processes row.place in
    line_of tab (codes "state" ∷ number_text row ∷ cell_text process.state ∷ process_end index process)

-- what a report tells of the processes of a dump: the sections, the processes, and the rows that say where each stands
pub record Standing : Type 0 where
  pub index : Contents
  pub processes : List Process
  pub stands : List Row

-- these parts as one value
abbrev pub standing : Contents → List Process → List Row → Standing
standing index processes stands = record { index = index; processes = processes; stands = stands }

-- where the process at a place stands, and as what it was spawned
abbrev pub stand_end : Standing → ℕ → List (List ℕ)
stand_end s p = let row = row_at s.stands p in shown_text (where_in row) ∷ shown_text (spawned_in row) ∷ []

-- which process is at a place, where it stands, and as what it was spawned
abbrev pub standing_end : Standing → ℕ → List (List ℕ)
standing_end s p = process_end s.index (process_at s.processes p) ++ stand_end s p

-- the line of a group of processes: how many it has, their memory together in bytes, and the first of them
abbrev pub group_line : Standing → TextGroup → List ℕ
group_line s group = line_of tab (codes "group" ∷ decimal group.count ∷ decimal group.weight ∷ standing_end s group.first)

-- the line of a process with one of its numbers: a word, the number, and which process it is
abbrev pub process_number_line : List ℕ → Standing → Ranked → List ℕ
process_number_line word s row = line_of tab (word ∷ number_text row ∷ standing_end s row.place)

-- the name of the process whose pid is the id of a table, or `-` if there is none
abbrev pub owner_name : List Process → Option (List ℕ) → List ℕ
owner_name processes None = codes "-"
owner_name processes (Some id) =
    option_map_or (λ p. cell_text (process_at processes p).name) (position (λ process. bytes_eq id process.pid) processes) (codes "-")

-- the line of an ETS table with its number of bytes: also its id and its name, which are the first and the
-- third of its columns, the offset of its section, and the name of its owner
abbrev pub table_bytes_line : List Process → List Row → Ranked → List ℕ
table_bytes_line processes rows row =
    let table = row_at rows row.place in
    line_of tab (codes "ets" ∷ number_text row ∷ cell_text (cell_at table 0) ∷ cell_text (cell_at table 2) ∷ decimal table.at
    ∷ owner_name processes (text_in (cell_at table 0)) ∷ [])

-- the line of a group of ports: how many it has, the line that says what they are, and the first of them
abbrev pub port_line : List Row → TextGroup → List ℕ
port_line rows group =
    let port = row_at rows group.first in
    line_of tab (codes "port" ∷ decimal group.count ∷ cut_text (cell_text (cell_at port 1)) ∷ cell_text (cell_at port 0) ∷ decimal port.at ∷ [])

-- the lines of states and of groups of processes
abbrev pub group_lines : Standing → Triaged → List ℕ
group_lines s triage = flat_map (state_count_line s.index s.processes) triage.states ++ flat_map (group_line s) triage.groups

-- the lines of message queues, and of processes by memory and by binaries
abbrev pub process_lines : Standing → Triaged → List ℕ
process_lines s triage =
    flat_map (process_number_line (codes "queue") s) triage.queues
    ++ (flat_map (process_number_line (codes "process") s) triage.memory
    ++ flat_map (process_number_line (codes "binary") s) triage.binaries)

-- the lines of tables and of groups of ports
abbrev pub table_lines : List Process → List Row → List Row → Triaged → List ℕ
table_lines processes tables ports triage =
    flat_map (table_bytes_line processes tables) triage.tables ++ flat_map (port_line ports) triage.ports

-- the line of a kind of findings that occurs: how many there are, and how many of these are in flight
abbrev pub finding_line : List ℕ → ℕ → ℕ → List ℕ
finding_line kind zero waiting = []
finding_line kind (suc more) waiting = line_of tab (codes "finding" ∷ decimal (suc more) ∷ kind ∷ decimal waiting ∷ [])

-- the lines of the kinds of findings that occur, with the number of findings of each, and of those in flight
abbrev pub finding_counts : FindingCounts → FindingCounts → List ℕ
finding_counts counts waiting =
    finding_line (codes "link") counts.links waiting.links
    ++ (finding_line (codes "monitor-to") counts.monitors_to waiting.monitors_to
    ++ (finding_line (codes "monitor-from") counts.monitors_from waiting.monitors_from
    ++ (finding_line (codes "unread-links") counts.unread_links waiting.unread_links
    ++ finding_line (codes "unread-queue") counts.unread_queues waiting.unread_queues)))

-- the line of one of the last sections: where it begins, and its header
abbrev pub last_line : Section → List ℕ
last_line s = line_of tab (codes "last" ∷ decimal s.at ∷ s.text ∷ [])

-- the lines of the last two sections of a truncated dump, or of the one that there is
abbrev pub last_lines : List Section → State → List ℕ
last_lines sections Whole = []
last_lines sections (TruncatedIn last) = flat_map last_line (drop (length sections - 2) sections)

-- the report of `triage` on a dump with this index, these bodies of the first section and of the first `memory`
-- section, which is empty if there is none, these processes and where they stand, these ETS tables and these ports
abbrev pub triage_report : Contents → List ℕ → List ℕ → ProcessTable → List Row → List Row → List Row → Triaged → List ℕ
triage_report index first_body memory_body table stands tables ports triage =
    let shown = standing index table.processes stands in
    triage_heading index first_body memory_body table
    ++ (group_lines shown triage
    ++ (process_lines shown triage
    ++ (table_lines table.processes tables ports triage
    ++ (finding_counts triage.findings triage.in_flight
    ++ (last_lines (sections_in index) (dump_state index.headers) ++ state_line (sections_in index) (dump_state index.headers))))))
