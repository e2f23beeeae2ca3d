-- What an audit finds: a list, process by process in dump order.
use Rattle.std.specs.Prelude.{ℕ, ◌==◌, Bool, true, false, ◌&&◌, not, List, [], ◌∷◌, ◌++◌, flat_map, position, slice_get, Option, None, Some, is_some, nat_lt, if◌then◌else◌}
use Rattle.std.specs.List.{enumerate_from, filter_map, list_any}
use Rattle.std.specs.Option.{option_and_then, option_flatten, option_map, option_to_list}
use Rattle.std.specs.Str.{bytes_eq}
use Rattle.dump_io.specs.Numbers.{dec_number}
use Rattle.dump_sections.specs.declared.index.State.{State}
use Rattle.dump_sections.specs.declared.index.State.TheVariants.{Whole, TruncatedIn}
use Rattle.dump_sections.specs.Index.{Contents, dump_state}
use Rattle.dump_sections.specs.Bodies.{section_at}
use Rattle.section_rows.specs.Rows.{Kept}
use Rattle.process_table.specs.Processes.{Process, ProcessTable, process_at}
use Rattle.link_graph.specs.Texts.{is_local}
use Rattle.link_graph.specs.Kinds.{Kind, Link, To, ToName, From}
use Rattle.link_graph.specs.Entries.{LinkEntry}
use Rattle.link_graph.specs.Lists.{Links, has_kind}
use Rattle.link_graph.specs.Graph.{links_of}
use Rattle.dump_audit.specs.declared.finding.Finding.{Finding}
use Rattle.dump_audit.specs.declared.finding.Finding.TheVariants.{LinkOneSided, MonitorTo, MonitorFrom, Mailbox, UnreadLinks, UnreadQueue, LinkGone, ToGone, FromGone, QueueCount}

-- what is audited: the sections of a dump and its processes; the length above which a message queue
-- is reported; and in a full audit, for each process, how many messages it has, if that is known
pub record Audit : Type 0 where
  pub index : Contents
  pub processes : List Process
  pub limit : ℕ
  pub mails : Option (List (Option ℕ))

-- what is audited, as one value
abbrev pub audit_of : Contents → List Process → ℕ → Option (List (Option ℕ)) → Audit
audit_of index processes limit mails = record { index = index; processes = processes; limit = limit; mails = mails }

-- ---- which processes count

-- the dump is truncated in the section at this place
abbrev pub is_cut : State → ℕ → Bool
is_cut Whole section = false
is_cut (TruncatedIn last) section = section == last

-- the dump is whole
abbrev pub is_whole : State → Bool
is_whole Whole = true
is_whole (TruncatedIn last) = false

-- a process is dumped unless the dump is truncated in its section
abbrev pub is_dumped : Contents → Process → Bool
is_dumped index process = not (is_cut (dump_state index.headers) process.section)

-- the entries of a process are judged by its partners', and theirs by its
-- own: it is dumped, it is of the dumped node, and its link list isn't unread
abbrev pub is_judged : Contents → Process → Bool
is_judged index process = is_dumped index process && is_local process.pid && not (links_of process.links).unread

-- where the section of a process begins
abbrev pub section_offset : Contents → Process → ℕ
section_offset index process = (section_at index process.section).at

-- ---- links and monitors

-- the pid of the process that an entry speaks of, if it speaks of one
abbrev pub partner_pid : Kind → Option (List ℕ)
partner_pid (Link pid) = Some pid
partner_pid (To pid reference) = Some pid
partner_pid (From pid reference) = Some pid
partner_pid kind = None

-- for an entry of the process with this pid: the entries of which the partner should have one
abbrev pub counterparts : List ℕ → Kind → List Kind
counterparts pid (Link partner) = Link pid ∷ []
counterparts pid (To partner reference) = From pid reference ∷ []
counterparts pid (From partner reference) = To pid reference ∷ ToName reference ∷ []
counterparts pid kind = []

-- the partner has one of the entries that it should have
abbrev pub is_answered : List ℕ → Kind → Links → Bool
is_answered pid kind partner = list_any (λ counterpart. has_kind counterpart partner.entries) (counterparts pid kind)

-- the entry is a link of a process to itself
abbrev pub is_own_link : Kind → ℕ → ℕ → Bool
is_own_link (Link pid) p q = p == q
is_own_link kind p q = false

-- the finding that an entry has no counterpart
abbrev pub one_sided : Kind → ℕ → ℕ → ℕ → ℕ → ℕ → Option Finding
one_sided (Link pid) p q entry at other = Some (LinkOneSided p q entry at other)
one_sided (To pid reference) p q entry at other = Some (MonitorTo p q entry at other)
one_sided (From pid reference) p q entry at other = Some (MonitorFrom p q entry at other)
one_sided kind p q entry at other = None

-- the finding that the partner of an entry isn't in the dump
abbrev pub gone : Kind → ℕ → ℕ → ℕ → ℕ → Option Finding
gone (Link pid) p entry at other = Some (LinkGone p entry at other)
gone (To pid reference) p entry at other = Some (ToGone p entry at other)
gone (From pid reference) p entry at other = Some (FromGone p entry at other)
gone kind p entry at other = None

-- the place of the process with this pid
abbrev pub process_place : List Process → List ℕ → Option ℕ
process_place processes pid = position (λ process. bytes_eq pid process.pid) processes

-- a full audit of a whole dump reports the processes of the dumped node that aren't in it
abbrev pub names_gone : Audit → Bool
names_gone a = is_some a.mails && is_whole (dump_state a.index.headers)

-- the finding on an entry of a process, whose partner is at a place or isn't in the dump
abbrev pub partner_finding : Audit → ℕ → Process → ℕ → ℕ → Kind → List ℕ → Option ℕ → Option Finding
partner_finding a p process entry at kind pid (Some q) =
    let partner = process_at a.processes q in
    if is_judged a.index partner && not (is_own_link kind p q) && not (is_answered process.pid kind (links_of partner.links))
    then one_sided kind p q entry at (section_offset a.index partner) else None
partner_finding a p process entry at kind pid None =
    if names_gone a && is_local pid then gone kind p entry at (section_offset a.index process) else None

-- the finding on an entry of a process, by its partner
abbrev pub entry_finding : Audit → ℕ → Process → ℕ → ℕ → Kind → Option Finding
entry_finding a p process entry at kind =
    option_and_then (λ pid. partner_finding a p process entry at kind pid (process_place a.processes pid)) (partner_pid kind)

-- the findings on the entries of a process, in their order
abbrev pub entry_findings : Audit → ℕ → Process → List LinkEntry → List Finding
entry_findings a p process entries = filter_map (λ numbered. entry_finding a p process numbered.0 numbered.1.at numbered.1.kind) (enumerate_from 0 entries)

-- the findings on the link list of a process
abbrev pub link_findings : Audit → ℕ → Process → List Finding
link_findings a p process =
    let links = links_of process.links in
    if links.unread then option_to_list (option_map (λ line. UnreadLinks p line.at (section_offset a.index process)) process.links)
    else (if is_local process.pid then entry_findings a p process links.entries else [])

-- ---- message queues

-- how many messages a process has, in a full audit and if that is known
abbrev pub mail_of : Audit → ℕ → Option ℕ
mail_of a p = option_and_then (λ mails. option_flatten (slice_get mails p)) a.mails

-- the findings on a stated length, compared with the number of messages if that is known
abbrev pub count_findings : ℕ → Kept → ℕ → ℕ → Option ℕ → List Finding
count_findings p line other stated None = []
count_findings p line other stated (Some found) = if found == stated then [] else QueueCount p stated found line.at other ∷ []

-- the findings on a stated length: it is no number; or it
-- is above the limit, and it isn't the number of messages
abbrev pub stated_findings : Audit → ℕ → Kept → ℕ → Option ℕ → List Finding
stated_findings a p line other None = UnreadQueue p line.at other ∷ []
stated_findings a p line other (Some stated) =
    (if nat_lt a.limit stated then Mailbox p stated line.at other ∷ [] else []) ++ count_findings p line other stated (mail_of a p)

-- the findings on the field that states the length of a message queue
abbrev pub queue_findings : Audit → ℕ → Process → Option Kept → List Finding
queue_findings a p process None = []
queue_findings a p process (Some line) = stated_findings a p line (section_offset a.index process) (dec_number line.text)

-- ---- all processes

-- the findings on a process: on its link list, then on its message queue
abbrev pub process_findings : Audit → ℕ × Process → List Finding
process_findings a (p, process) =
    if is_dumped a.index process then link_findings a p process ++ queue_findings a p process process.queue else []

-- the findings of an audit
abbrev pub findings : Audit → List Finding
findings a = flat_map (process_findings a) (enumerate_from 0 a.processes)

-- the findings of the audit of a process table
abbrev pub findings_in : Contents → ProcessTable → ℕ → Option (List (Option ℕ)) → List Finding
findings_in index table limit mails = findings (audit_of index table.processes limit mails)
