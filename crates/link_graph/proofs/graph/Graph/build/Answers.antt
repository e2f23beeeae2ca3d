use Rattle.std.proofs.Common.{◌≡◌, ◌<◌, Some, length, sym, ◌∙◌, ap, arith, take, ◌++◌, ◌∷◌, []}
use Rattle.std.specs.Prelude.{slice_get}
use Rattle.section_rows.specs.Shown.{shown_cell}
use Rattle.process_table.specs.Laws.{process_at-there}
use Rattle.process_table.specs.Processes.{process_at}
use Rattle.link_graph.specs.Graph.{links_of, graph_of}
use Rattle.link_graph.proofs.Taken.{map-at}
use Rattle.link_graph.proofs.graph.Graph.build.Goals as goal

pub loop-p-preserved : goal.loop-p-preserved
loop-p-preserved c =
    let processes = c.args.procs.now.processes in
    let p = c.loop-p.p in
    let inside : p < length processes = omega arith in
    let process = process_at processes p in
    let at : slice_get processes p ≡ Some process = process_at-there processes p inside in
    c.in_ok-lists-2.ensures
    ∙ ap (λ lists. lists ++ links_of (shown_cell c.links.result) ∷ []) c.loop-p.invariant
    ∙ ap (λ line. graph_of (take p processes) ++ links_of line ∷ []) c.links.ensures
    ∙ sym (map-at (λ process. links_of process.links) processes p process at)
