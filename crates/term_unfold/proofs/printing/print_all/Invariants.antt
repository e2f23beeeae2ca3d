use Rattle.std.proofs.Common.{◌≡◌, ◌+◌, ◌*◌, length}
use Rattle.dump_io.specs.Sinks.{HasPutPart}
use Rattle.term_forms.specs.Seen.{element}
use Rattle.term_unfold.specs.Inner.Rest.{rest}
use Rattle.term_unfold.specs.Leaves.{leaf_text}
use Rattle.term_unfold.specs.Text.{show}
use Rattle.term_unfold.specs.Unfolding.{unfolding_of}
use Rattle.term_unfold.proofs.printing.print_all.Given as goal

-- what was written, and what the open cells still have to write, are the whole text
abbrev pub invariant-loop-entry : goal.invariant-loop-entry
invariant-loop-entry g l = record {
  cells : l.path.cells ≡ l.fn.path.cells;
  part : HasPutPart (g.K.Sink.state l.fn.sink) (g.K.Sink.state l.sink)
      (show (leaf_text l.heap.enc l.heap.cells l.previews) (unfolding_of l.heap.cells (element l.fn.root)) l.fn.budget)
      (rest (leaf_text l.heap.enc l.heap.cells l.previews) l.heap.cells l.path.entries l.left);
}

abbrev pub decreases-loop-entry : goal.decreases-loop-entry
decreases-loop-entry g l = 2 * l.left + length l.path.entries
