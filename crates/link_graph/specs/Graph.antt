-- What a graph holds: the link list of each process.
use Rattle.std.specs.Prelude.{List, Option, None, Some, map}
use Rattle.section_rows.specs.Rows.{Kept}
use Rattle.process_table.specs.Processes.{Process}
use Rattle.link_graph.specs.Entries.{entries_at}
use Rattle.link_graph.specs.Lists.{Links, no_links, links_in}

-- the links of a process with this link list, or without one
abbrev pub links_of : Option Kept → Links
links_of None = no_links
links_of (Some list) = links_in (entries_at list.value_at list.text)

-- a graph holds the links of each process of the table, in the table's order
abbrev pub graph_of : List Process → List Links
graph_of processes = map (λ process. links_of process.links) processes
