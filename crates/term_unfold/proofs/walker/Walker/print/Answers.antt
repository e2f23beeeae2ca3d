use Rattle.std.proofs.Common.{ap}
use Rattle.dump_io.specs.Laws.Puts.{Puts-as}
use Rattle.term_forms.specs.Seen.{element}
use Rattle.term_unfold.specs.Leaves.{leaf_text}
use Rattle.term_unfold.specs.Text.{show}
use Rattle.term_unfold.specs.Unfolding.{unfolding_of}
use Rattle.term_unfold.specs.Walks.{Walk}
use Rattle.term_unfold.proofs.walker.Walker.print.Goals as goal

pub print_all-result-requires : goal.print_all-result-requires
print_all-result-requires g c =
    record { previews = c.self.invariant.3; serves = c.self.invariant.0; empty = c.self.invariant.1; budget = c.requires.budget }

pub returns-clause-puts : goal.returns-clause-puts
returns-clause-puts g c =
    Puts-as (ap (λ (w : Walk). show (leaf_text w.heap.enc w.heap.cells w.previews) (unfolding_of w.heap.cells (element c.args.root)) c.args.budget) c.self.view_is) c.print_all-result.ensures.puts
