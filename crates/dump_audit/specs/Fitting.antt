-- Findings that fit the processes: the places and the numbers that they name are theirs.
use Rattle.std.specs.Prelude.{◌≡◌, ℕ, ◌<◌, Bool, true, false, List, length, slice_get, IsSomeAnd}
use Rattle.process_table.specs.Processes.{Process, process_at}
use Rattle.link_graph.specs.Kinds.{Kind, Link, To, From}
use Rattle.link_graph.specs.Graph.{links_of}
use Rattle.dump_audit.specs.declared.finding.Finding.{Finding}
use Rattle.dump_audit.specs.declared.finding.Finding.TheVariants.{LinkOneSided, MonitorTo, MonitorFrom, Mailbox, UnreadLinks, UnreadQueue, LinkGone, ToGone, FromGone, QueueCount}

-- the entry is a link to a pid
abbrev pub is_link : Kind → Bool
is_link (Link pid) = true
is_link kind = false

-- the entry is a monitor of a pid
abbrev pub is_to : Kind → Bool
is_to (To pid reference) = true
is_to kind = false

-- the entry is a monitor by a pid
abbrev pub is_from : Kind → Bool
is_from (From pid reference) = true
is_from kind = false

-- the process at a place has an entry with this number, which is of such a kind
pub record HasEntry (is_kind : Kind → Bool) (processes : List Process) (p entry : ℕ) : Type 0 where
  pub inside : p < length processes
  pub there : IsSomeAnd (slice_get (links_of (process_at processes p).links).entries entry) (λ e. is_kind e.kind ≡ true)

-- what a finding implies of the processes: each place is
-- that of a process, and an entry is of the finding's kind
abbrev pub Fits : List Process → Finding → Type 0
Fits processes (LinkOneSided p q entry at other) = HasEntry is_link processes p entry × (q < length processes)
Fits processes (MonitorTo p q entry at other) = HasEntry is_to processes p entry × (q < length processes)
Fits processes (MonitorFrom p q entry at other) = HasEntry is_from processes p entry × (q < length processes)
Fits processes (Mailbox p count at other) = p < length processes
Fits processes (UnreadLinks p at other) = p < length processes
Fits processes (UnreadQueue p at other) = p < length processes
Fits processes (LinkGone p entry at other) = HasEntry is_link processes p entry
Fits processes (ToGone p entry at other) = HasEntry is_to processes p entry
Fits processes (FromGone p entry at other) = HasEntry is_from processes p entry
Fits processes (QueueCount p stated found at other) = p < length processes
