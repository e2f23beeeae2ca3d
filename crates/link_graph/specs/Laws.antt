-- Laws of the definitions, each with its proof, for the proofs of callers.
use Rattle.std.proofs.Common.{◌≡◌, ℕ, List, Option, None, Some, refl, ◌∙◌, ap, slice_get}
use Rattle.std.specs.Prelude.{option_map, unwrap_or}
use Rattle.std.proofs.lemmas.Option.{slice_get-map}
use Rattle.process_table.specs.Processes.{Process, nobody, process_at}
use Rattle.link_graph.specs.Lists.{no_links, links_at}
use Rattle.link_graph.specs.Graph.{links_of, graph_of}

-- what the graph has at a place is what the process there has
pub links-at : (processes : List Process) (p : ℕ) → links_at (graph_of processes) p ≡ links_of (process_at processes p).links
links-at processes p =
    ap (λ o. unwrap_or o no_links) (slice_get-map (λ process. links_of process.links) processes p) ∙ of (slice_get processes p)
  where
    of : (o : Option Process) → unwrap_or (option_map (λ process. links_of process.links) o) no_links ≡ links_of (unwrap_or o nobody).links
    of None = refl
    of (Some process) = refl
