use Rattle.std.proofs.Common.{ℕ, ◌↔◌, ap, subst}
use Rattle.term_forms.specs.Seen.{element}
use Rattle.cell_graphs.specs.Graphs.{graph_of}
use Rattle.cell_graphs.specs.Reached.{Reached, IsIn}
use Rattle.cell_graphs.specs.Laws.HeapGraphs.{heap-within}
use Rattle.cell_graphs.specs.Laws.Spreading.{looked-first, reached-root}
use Rattle.heap_weights.specs.Labels.{frontier}
use Rattle.heap_reach.specs.Reached.{Reaching, Begun}
use Rattle.heap_reach.proofs.Rooted.{IsReachOf-more}
use Rattle.heap_reach.proofs.reach.Reach.root.Goals as goal

pub spread-requires-clause-within : goal.spread-requires-clause-within
spread-requires-clause-within c = heap-within c.self.inside.heap.now.cells

pub spread-requires-clause-looked : goal.spread-requires-clause-looked
spread-requires-clause-looked c =
    looked-first (graph_of c.self.inside.heap.now.cells) (frontier c.self.inside.labels) (frontier c.add_root.new.labels) _ c.self.invariant.2 c.add_root.ensures.adds

pub returns-clause-reached : goal.returns-clause-reached
returns-clause-reached c =
    let marks = (frontier c.spread.new.labels).marks in
    let P : Reaching → Type 0 = λ r. (n : ℕ) → IsIn marks n ↔ Reached (graph_of r.heap.cells) (Begun r.heap.cells r.marks (element c.args.root)) n in
    subst P c.self.view_is
    (reached-root (graph_of c.self.inside.heap.now.cells) (frontier c.self.inside.labels) (frontier c.add_root.new.labels) _ marks c.add_root.ensures.adds c.spread.ensures.reached)

pub returns-clause-roots : goal.returns-clause-roots
returns-clause-roots c =
    let new : Reaching = record { heap = c.self.inside.heap.now; marks = (frontier c.spread.new.labels).marks; reserved = c.spread.new.labels.reserved } in
    λ roots exact. IsReachOf-more c.args.self.now new roots (element c.args.root) (ap (λ (r : Reaching). r.heap) c.self.view_is) (returns-clause-reached c) exact
