use Rattle.std.proofs.Common.{◌≡◌, [], ◌∙◌, ap, subst}
use Rattle.dump_io.specs.Sinks.{HasPutPart}
use Rattle.dump_io.specs.Laws.Puts.{HasPutPart-next, HasPutPart-rest, HasPutPart-whole}
use Rattle.term_forms.specs.Seen.{element}
use Rattle.term_unfold.specs.Inner.Rest.{rest}
use Rattle.term_unfold.specs.Leaves.{leaf_text}
use Rattle.term_unfold.specs.Text.{show}
use Rattle.term_unfold.specs.Unfolding.{unfolding_of}
use Rattle.term_unfold.proofs.Written.{Puts-broken_step}
use Rattle.term_unfold.proofs.printing.print_all.Goals as goal

pub loop-entry-preserved : goal.loop-entry-preserved
loop-entry-preserved g c =
    let inv = c.loop-entry.invariant in
    let next = c.in_ok-left-2.ensures in
    record {
      cells = next.cells ∙ inv.cells;
      part = HasPutPart-next _ _ _ inv.part next.step.writes;
    }

pub returns-in_err-left-clause-puts : goal.returns-in_err-left-clause-puts
returns-in_err-left-clause-puts g c =
    Puts-broken_step _ _ _ c.from_residual.result c.from_residual.ensures.0 c.in_err-left.ensures.step

pub returns-in_err-left-2-clause-puts : goal.returns-in_err-left-2-clause-puts
returns-in_err-left-2-clause-puts g c =
    HasPutPart-rest _ _ c.from_residual-in_err-left-2.result c.loop-entry.invariant.part
    (Puts-broken_step _ _ _ c.from_residual-in_err-left-2.result c.from_residual-in_err-left-2.ensures.0 c.in_err-left-2.ensures.step)

pub returns-clause-puts : goal.returns-clause-puts
returns-clause-puts g c =
    let heap = c.args.heap.now.cells in
    let leaf = leaf_text c.args.heap.now.enc c.args.heap.now.cells c.args.previews.now in
    let inv = c.loop-entry.invariant in
    let whole = show leaf (unfolding_of heap (element c.args.root.now)) c.args.budget in
    let end : rest leaf heap c.loop-entry.path.entries c.loop-entry.left ≡ [] = ap (λ es. rest leaf heap es c.loop-entry.left) c.in_default.ensures.top in
    HasPutPart-whole whole tt (subst (HasPutPart (g.K.Sink.state c.args.sink.now) (g.K.Sink.state c.loop-entry.sink) whole) end inv.part)
