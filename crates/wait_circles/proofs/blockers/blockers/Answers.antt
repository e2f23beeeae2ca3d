use Rattle.std.proofs.Common.{◌++◌, ◌∙◌, ap₂, sym}
use Rattle.std.specs.Prelude.{option_to_list}
use Rattle.wait_circles.proofs.BlockFacts.{blockers-more}
use Rattle.wait_circles.proofs.blockers.blockers.Goals as goal

pub loop-process-preserved : goal.loop-process-preserved
loop-process-preserved c = record {
  left = c.take_blocker-blocker.ensures.left;
  blockers = c.in_ok-push_blocker.ensures ∙ ap₂ (λ l o. l ++ option_to_list o) c.loop-process.invariant.blockers c.take_blocker-blocker.ensures.blocker ∙ sym (blockers-more c.args.leads.now c.loop-process.process);
}
