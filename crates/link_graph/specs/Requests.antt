-- The requests of a process: its monitors of processes and of registered names. Whoever calls a process monitors
-- it until the answer comes.
use Rattle.std.specs.Prelude.{◌≡◌, ℕ, ◌+◌, ◌-◌, List, length, Option, None, Some}
use Rattle.std.specs.List.{between, filter_map}
use Rattle.link_graph.specs.Entries.{LinkEntry}
use Rattle.link_graph.specs.Kinds.{IsMonitor, Kind, To, ToName, to_opening}
use Rattle.link_graph.specs.Lists.{Links}
use Rattle.link_graph.specs.Texts.{is_braced}

-- a request: the process or the name that is asked, as it is written, and the reference of the monitor
pub record Request : Type 0 where
  pub target : List ℕ
  pub reference : List ℕ

-- the name and the node, in braces, of a monitor with this text: what
-- stands between `{to,` and the `,` before its reference
abbrev pub partner_in : List ℕ → List ℕ → List ℕ
partner_in text reference = between 4 (length text - (length reference + 2)) text

-- the request of a kind, given the text of the entry
abbrev pub request_of : List ℕ → Kind → Option Request
request_of text (To pid reference) = Some (record { target = pid; reference = reference })
request_of text (ToName reference) = Some (record { target = partner_in text reference; reference = reference })
request_of text kind = None

-- the request that an entry is, if it is one
abbrev pub request_in : LinkEntry → Option Request
request_in entry = request_of entry.text entry.kind

-- the requests of a process with these links, in the order of its link list
abbrev pub requests_in : Links → List Request
requests_in links = filter_map request_in links.entries

-- the partner of a monitor of a registered name is its name
abbrev pub AreNames : Type 0
AreNames = (text name reference : List ℕ) → IsMonitor to_opening is_braced text name reference → partner_in text reference ≡ name
