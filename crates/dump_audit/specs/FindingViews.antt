-- What is told of a finding, by the places of processes and the numbers of entries in it. Offsets are of the file.
use Rattle.std.specs.Prelude.{ℕ, List, [], codes, slice_get, Option, None, Some, unwrap_or}
use Rattle.process_table.specs.Processes.{Process, process_at}
use Rattle.link_graph.specs.Kinds.{Kind, To, From, Other}
use Rattle.link_graph.specs.Entries.{LinkEntry}
use Rattle.link_graph.specs.Graph.{links_of}
use Rattle.dump_audit.specs.Findings.{partner_pid}
use Rattle.dump_audit.specs.declared.finding.Finding.{Finding}
use Rattle.dump_audit.specs.declared.finding.Finding.TheVariants.{LinkOneSided, MonitorTo, MonitorFrom, Mailbox, UnreadLinks, UnreadQueue, LinkGone, ToGone, FromGone, QueueCount}
use Rattle.dump_audit.specs.declared.views.FindingView.{FindingView}
use Rattle.dump_audit.specs.declared.views.Named.{Named as NamedHere}
use Rattle.dump_audit.specs.declared.views.Named.TheVariants as here

-- what a finding names besides its process: nothing, the process of a link, the process and the reference of a monitor,
-- a number of messages, or a stated number and the one that was found
pub data Named : Type 0 where
  Nothing : Named
  Partner : (pid : List ℕ) → Named
  Monitor : (pid reference : List ℕ) → Named
  Count : (messages : ℕ) → Named
  Counts : (stated found : ℕ) → Named

-- what is told of a finding: the word of its kind, its process, what else it names, and its two offsets
pub record View : Type 0 where
  pub word : List ℕ
  pub pid : List ℕ
  pub named : Named
  pub at : ℕ
  pub other : ℕ

-- a view with these parts
abbrev pub view : List ℕ → List ℕ → Named → ℕ → ℕ → View
view word pid named at other = record { word = word; pid = pid; named = named; at = at; other = other }

-- the pid of the process at a place
abbrev pub pid_at : List Process → ℕ → List ℕ
pid_at processes p = (process_at processes p).pid

-- what the entry with a number in a link list says
abbrev pub kind_in : Option LinkEntry → Kind
kind_in None = Other
kind_in (Some entry) = entry.kind

-- what an entry of a process says, by the places of both
abbrev pub kind_at : List Process → ℕ → ℕ → Kind
kind_at processes p entry = kind_in (slice_get (links_of (process_at processes p).links).entries entry)

-- the pid that an entry of this kind speaks of
abbrev pub partner_in : Kind → List ℕ
partner_in kind = unwrap_or (partner_pid kind) []

-- the pid that an entry speaks of
abbrev pub partner_at : List Process → ℕ → ℕ → List ℕ
partner_at processes p entry = partner_in (kind_at processes p entry)

-- the reference of a monitor
abbrev pub reference_in : Kind → List ℕ
reference_in (To pid reference) = reference
reference_in (From pid reference) = reference
reference_in kind = []

-- the reference of an entry
abbrev pub reference_at : List Process → ℕ → ℕ → List ℕ
reference_at processes p entry = reference_in (kind_at processes p entry)

-- what is told of a finding
abbrev pub view_of : List Process → Finding → View
view_of ps (LinkOneSided p q entry at other) = view (codes "link") (pid_at ps p) (Partner (pid_at ps q)) at other
view_of ps (MonitorTo p q entry at other) = view (codes "monitor-to") (pid_at ps p) (Monitor (pid_at ps q) (reference_at ps p entry)) at other
view_of ps (MonitorFrom p q entry at other) = view (codes "monitor-from") (pid_at ps p) (Monitor (pid_at ps q) (reference_at ps p entry)) at other
view_of ps (Mailbox p count at other) = view (codes "mailbox") (pid_at ps p) (Count count) at other
view_of ps (UnreadLinks p at other) = view (codes "unread-links") (pid_at ps p) Nothing at other
view_of ps (UnreadQueue p at other) = view (codes "unread-queue") (pid_at ps p) Nothing at other
view_of ps (LinkGone p entry at other) = view (codes "link-gone") (pid_at ps p) (Partner (partner_at ps p entry)) at other
view_of ps (ToGone p entry at other) = view (codes "to-gone") (pid_at ps p) (Monitor (partner_at ps p entry) (reference_at ps p entry)) at other
view_of ps (FromGone p entry at other) = view (codes "from-gone") (pid_at ps p) (Monitor (partner_at ps p entry) (reference_at ps p entry)) at other
view_of ps (QueueCount p stated found at other) = view (codes "queue-count") (pid_at ps p) (Counts stated found) at other

-- the value of what a finding names, wherever that lies in memory
abbrev pub shown_named : NamedHere → Named
shown_named here.Nothing = Nothing
shown_named (here.Partner pid) = Partner pid.now
shown_named (here.Monitor pid reference) = Monitor pid.now reference.now
shown_named (here.Count messages) = Count messages
shown_named (here.Counts stated found) = Counts stated found

-- the value of what is told of a finding, wherever that lies in memory
abbrev pub shown_view : FindingView → View
shown_view v = view v.word.now v.pid.now (shown_named v.named) v.at v.other
