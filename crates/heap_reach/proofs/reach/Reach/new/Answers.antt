use Rattle.std.proofs.Common.{sym, ◌∙◌}
use Rattle.std.proofs.lemmas.Bool.{false≢true}
use Rattle.std.proofs.lemmas.List.{length-map}
use Rattle.cell_graphs.specs.Laws.HeapGraphs.{cells-of}
use Rattle.heap_weights.specs.Labels.{frontier, is_stop}
use Rattle.heap_reach.proofs.Rooted.{IsReachOf-none}
use Rattle.heap_reach.proofs.reach.Reach.new.Goals as goal

pub invariant_of-result : goal.invariant_of-result
invariant_of-result c =
    let labels = c.in_ok-labels.labels in
    let made = c.in_ok-labels.ensures in
    let count = sym (cells-of c.args.heap.now.cells) in (
      c.cells.ensures.bounded,
      made.size ∙ c.cells.ensures.value,
      record {
        size = length-map labels.holders (is_stop labels.part) ∙ made.size ∙ c.cells.ensures.value ∙ count;
        room = made.reserved ∙ c.cells.ensures.value ∙ count;
        empty = made.empty;
        closed = λ m n is leads. absurd (false≢true (sym (made.unmarked m) ∙ is));
      },
      c.in_ok-lasts.ensures,
    )

pub returns-clause-roots : goal.returns-clause-roots
returns-clause-roots c =
    let labels = c.in_ok-labels.labels in
    IsReachOf-none (record { heap = c.args.heap.now; marks = (frontier labels).marks; reserved = labels.reserved }) c.in_ok-labels.ensures.unmarked
