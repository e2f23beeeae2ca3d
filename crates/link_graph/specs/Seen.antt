-- What contracts see of entries: their values, regardless of where they lie in memory.
use Rattle.link_graph.specs.Kinds.{Kind, Link, LinkPort, To, ToPort, ToName, From, FromPort, Other}
use Rattle.link_graph.specs.Entries.{LinkEntry}
use Rattle.link_graph.specs.declared.shapes.EntryKind.{EntryKind}
use Rattle.link_graph.specs.declared.shapes.EntryKind.TheVariants as kind
use Rattle.link_graph.specs.declared.shapes.Entry.{Entry}
use Rattle.link_graph.specs.Requests.{Request}
use Rattle.link_graph.specs.declared.requests.Request.{Request as LentRequest}

-- the value of a kind
abbrev pub shown_kind : EntryKind → Kind
shown_kind (kind.Link pid) = Link pid.now
shown_kind kind.LinkPort = LinkPort
shown_kind (kind.To pid reference) = To pid.now reference.now
shown_kind kind.ToPort = ToPort
shown_kind (kind.ToName reference) = ToName reference.now
shown_kind (kind.From pid reference) = From pid.now reference.now
shown_kind kind.FromPort = FromPort
shown_kind kind.Other = Other

-- the value of an entry
abbrev pub shown_entry : Entry → LinkEntry
shown_entry entry = record { at = entry.at; text = entry.text.now; kind = shown_kind entry.kind }

-- the value of a request
abbrev pub shown_request : LentRequest → Request
shown_request request = record { target = request.target.now; reference = request.reference.now }
