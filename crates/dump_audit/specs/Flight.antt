-- Findings in flight: a signal explains them that was sent and isn't handled yet, as a link of which its partner hasn't heard.
use Rattle.std.specs.Prelude.{ℕ, Bool, false, ◌||◌, not, List, filter, map, slice_get, unwrap_or}
use Rattle.dump_sections.specs.Sections.{sections}
use Rattle.section_rows.specs.Rows.{rows_of}
use Rattle.process_table.specs.Records.{record_sections}
use Rattle.process_table.specs.Signals.{is_signalled, signal_columns}
use Rattle.dump_audit.specs.declared.finding.Finding.{Finding}
use Rattle.dump_audit.specs.declared.finding.Finding.TheVariants.{LinkOneSided, MonitorTo, MonitorFrom, LinkGone, ToGone, FromGone}

-- for each process of a dump, whether signals wait for it
abbrev pub signalled_in : List ℕ → List Bool
signalled_in bytes = map is_signalled (rows_of bytes signal_columns (record_sections (sections bytes)))

-- whether signals wait for the process at a place
abbrev pub is_signalled_at : List Bool → ℕ → Bool
is_signalled_at signalled p = unwrap_or (slice_get signalled p) false

-- whether a finding is in flight: a monitor of a partner for which signals wait; what the partner should have told a
-- process for which they wait, or a process that is gone; a link if they wait at either end; no other finding
abbrev pub is_in_flight : List Bool → Finding → Bool
is_in_flight signalled (LinkOneSided p q entry at other) = is_signalled_at signalled p || is_signalled_at signalled q
is_in_flight signalled (MonitorTo p q entry at other) = is_signalled_at signalled q
is_in_flight signalled (MonitorFrom p q entry at other) = is_signalled_at signalled p
is_in_flight signalled (LinkGone p entry at other) = is_signalled_at signalled p
is_in_flight signalled (ToGone p entry at other) = is_signalled_at signalled p
is_in_flight signalled (FromGone p entry at other) = is_signalled_at signalled p
is_in_flight signalled finding = false

-- the findings in flight, in their order
abbrev pub in_flight : List Bool → List Finding → List Finding
in_flight signalled found = filter (is_in_flight signalled) found

-- the other findings, in their order
abbrev pub settled : List Bool → List Finding → List Finding
settled signalled found = filter (λ finding. not (is_in_flight signalled finding)) found
