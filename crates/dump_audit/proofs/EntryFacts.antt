-- What an entry of the graph says is what that of the process says.
use Rattle.std.proofs.Common.{◌≡◌, ℕ, List, ◌∙◌, ap}
use Rattle.std.specs.Prelude.{slice_get}
use Rattle.process_table.specs.Processes.{Process}
use Rattle.link_graph.specs.Lists.{Links, links_at}
use Rattle.link_graph.specs.Graph.{graph_of}
use Rattle.dump_audit.specs.FindingViews.{kind_in, kind_at}
use Rattle.link_graph.specs.Laws.{links-at}

pub kind-there : (graph : List Links) (processes : List Process) (p entry : ℕ) → graph ≡ graph_of processes
    → kind_in (slice_get (links_at graph p).entries entry) ≡ kind_at processes p entry
kind-there graph processes p entry is =
    ap (λ links. kind_in (slice_get links.entries entry)) (ap (λ g. links_at g p) is ∙ links-at processes p)
