use Rattle.std.proofs.Common.{◌≡◌, ◌∙◌, ap, subst}
use Rattle.std.specs.Prelude.{IfOk}
use Rattle.term_unfold.specs.Walks.{Walk}
use Rattle.dump_trial.specs.Trial.{process_roots, tally_in}
use Rattle.dump_trial.proofs.bad_roots.count_process.Goals as goal

pub returns-clause-tally : goal.returns-clause-tally
returns-clause-tally c =
    let bytes = c.args.held.now in
    let pid = c.args.pid.now in
    let cells = c.in_ok-walker.walker.heap.cells in
    subst (λ cs. IfOk c.count_bodies.result (λ tally. tally ≡ tally_in cs (process_roots bytes pid)))
    (ap (λ (w : Walk). w.heap.cells) c.in_ok-walker.ensures ∙ c.in_ok-heap.ensures.cells)
    (subst (λ b. IfOk c.count_bodies.result (λ tally. tally ≡ tally_in cells (process_roots b pid))) (c.in_ok-previews.ensures.same ∙ c.in_ok-heap.ensures.same)
    c.count_bodies.ensures.tally)
