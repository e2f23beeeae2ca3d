-- How many findings of each kind an audit has.
use Rattle.std.specs.Prelude.{Bool, true, false, List, count_by}
use Rattle.dump_audit.specs.declared.finding.Finding.{Finding}
use Rattle.dump_audit.specs.declared.finding.Finding.TheVariants.{LinkOneSided, MonitorTo, MonitorFrom, UnreadLinks, UnreadQueue}
use Rattle.dump_triage.specs.declared.finding_counts.FindingCounts.{FindingCounts}

-- a link to a process that has none back
abbrev pub is_link_finding : Finding → Bool
is_link_finding (LinkOneSided p q entry at other) = true
is_link_finding finding = false

-- a monitor of a process that doesn't know of it
abbrev pub is_monitor_to : Finding → Bool
is_monitor_to (MonitorTo p q entry at other) = true
is_monitor_to finding = false

-- a monitor by a process that doesn't know of it
abbrev pub is_monitor_from : Finding → Bool
is_monitor_from (MonitorFrom p q entry at other) = true
is_monitor_from finding = false

-- an unread link list
abbrev pub is_unread_links : Finding → Bool
is_unread_links (UnreadLinks p at other) = true
is_unread_links finding = false

-- a length of a message queue that is no number
abbrev pub is_unread_queue : Finding → Bool
is_unread_queue (UnreadQueue p at other) = true
is_unread_queue finding = false

-- how many findings of each of these kinds there are; others aren't counted
abbrev pub counts_of : List Finding → FindingCounts
counts_of found = record {
  links = count_by is_link_finding found;
  monitors_to = count_by is_monitor_to found;
  monitors_from = count_by is_monitor_from found;
  unread_links = count_by is_unread_links found;
  unread_queues = count_by is_unread_queue found;
}
