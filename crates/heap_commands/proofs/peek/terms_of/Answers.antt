use Rattle.std.proofs.Common.{◌++◌, ◌∙◌, ap, sym}
use Rattle.root_views.specs.Seen.{content}
use Rattle.root_views.specs.Roots.{term_in}
use Rattle.heap_commands.proofs.PartLoads.{elements-more}
use Rattle.heap_commands.proofs.peek.terms_of.Goals as goal

pub loop-i-preserved : goal.loop-i-preserved
loop-i-preserved c =
    c.in_ok-push_term.ensures ∙ ap (λ l. l ++ term_in (content c.root.result.what)) c.loop-i.invariant
    ∙ sym (elements-more c.args.roots.now.shown c.loop-i.i _ c.root.ensures)
