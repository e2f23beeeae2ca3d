-- The text of the report on links and monitors. Offsets are of the file.
use Rattle.std.specs.Prelude.{ℕ, List, [], ◌∷◌, ◌++◌, length, decimal, codes, Option, None, Some, if◌then◌else◌}
use Rattle.std.specs.List.{flat_map, sum_by}
use Rattle.section_rows.specs.Rows.{Kept}
use Rattle.process_table.specs.Processes.{Process}
use Rattle.link_graph.specs.Kinds.{Kind, Link, LinkPort, To, ToPort, ToName, From, FromPort, Other}
use Rattle.link_graph.specs.Entries.{LinkEntry}
use Rattle.link_graph.specs.Graph.{links_of}
use Rattle.report_lines.specs.Lines.{line_of, word_space, total_line}

-- the word for a kind of entry
abbrev pub kind_word : Kind → List ℕ
kind_word (Link pid) = codes "link"
kind_word LinkPort = codes "link-port"
kind_word (To pid reference) = codes "to"
kind_word ToPort = codes "to-port"
kind_word (ToName reference) = codes "to-name"
kind_word (From pid reference) = codes "from"
kind_word FromPort = codes "from-port"
kind_word Other = codes "other"

-- the line of an entry of the process with this pid: where it begins, the pid, the word of its kind, and its text
abbrev pub entry_line : List ℕ → LinkEntry → List ℕ
entry_line pid entry = line_of word_space (decimal entry.at ∷ pid ∷ kind_word entry.kind ∷ entry.text ∷ [])

-- the line of an unread link list: where its field's line begins
abbrev pub unread_line : List ℕ → Option Kept → List ℕ
unread_line pid None = []
unread_line pid (Some list) = line_of word_space (decimal list.at ∷ pid ∷ codes "unread" ∷ [])

-- the lines of a process
abbrev pub process_links : Process → List ℕ
process_links process =
    if (links_of process.links).unread then unread_line process.pid process.links
    else flat_map (entry_line process.pid) (links_of process.links).entries

-- how many entries a process has
abbrev pub entry_count : Process → ℕ
entry_count process = length (links_of process.links).entries

-- the report of `links`: in the end stands how many entries all processes have
abbrev pub links_report : List Process → List ℕ
links_report processes = flat_map process_links processes ++ total_line (codes "entries") (sum_by entry_count processes)
