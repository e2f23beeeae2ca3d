-- The text of the report of an audit. Offsets are of the file.
use Rattle.std.specs.Prelude.{ℕ, Bool, List, [], ◌∷◌, ◌++◌, length, decimal, codes, None, Option, Some}
use Rattle.std.specs.List.{flat_map}
use Rattle.dump_sections.specs.Index.{Contents, sections_in, dump_state}
use Rattle.process_table.specs.Processes.{Process}
use Rattle.dump_audit.specs.FindingViews.{Named, Nothing, Partner, Monitor, Count, Counts, View, view_of}
use Rattle.dump_audit.specs.Findings.{Audit, findings}
use Rattle.dump_audit.specs.Flight.{in_flight, settled}
use Rattle.dump_audit.specs.declared.finding.Finding.{Finding}
use Rattle.report_lines.specs.Lines.{line_of, word_space, total_line}
use Rattle.report_lines.specs.States.{state_line}

-- what a finding names, as it stands in its line
abbrev pub named_parts : Named → List (List ℕ)
named_parts Nothing = []
named_parts (Partner pid) = pid ∷ []
named_parts (Monitor pid reference) = pid ∷ reference ∷ []
named_parts (Count messages) = decimal messages ∷ []
named_parts (Counts stated found) = decimal stated ∷ decimal found ∷ []

-- what stands in the line of a finding: its word, the process, what else it names, and its two offsets
abbrev pub view_parts : View → List (List ℕ)
view_parts v = v.word ∷ v.pid ∷ (named_parts v.named ++ (decimal v.at ∷ decimal v.other ∷ []))

-- the line of a finding
abbrev pub finding_line : List Process → Finding → List ℕ
finding_line ps finding = line_of word_space (view_parts (view_of ps finding))

-- the line with how many findings are in flight, if that is told
abbrev pub flight_line : Option ℕ → List ℕ
flight_line None = []
flight_line (Some count) = total_line (codes "in-flight") count

-- the report of some findings on a dump with this index and these processes: their lines, their
-- number, how many others are in flight, if that is told, and the state
abbrev pub findings_report : Contents → List Process → List Finding → Option ℕ → List ℕ
findings_report index processes found others =
    flat_map (finding_line processes) found
    ++ (total_line (codes "findings") (length found)
    ++ (flight_line others ++ state_line (sections_in index) (dump_state index.headers)))

-- the report of `audit`
abbrev pub audit_report : Audit → List ℕ
audit_report a = findings_report a.index a.processes (findings a) None

-- an audit, and for each of its processes whether signals wait for it
pub record SettledAudit : Type 0 where
  pub audit : Audit
  pub signalled : List Bool

-- its findings that aren't in flight
abbrev pub settled_findings : SettledAudit → List Finding
settled_findings a = settled a.signalled (findings a.audit)

-- the report of `audit-settled`
abbrev pub settled_report : SettledAudit → List ℕ
settled_report a =
    findings_report a.audit.index a.audit.processes (settled_findings a) (Some (length (in_flight a.signalled (findings a.audit))))
