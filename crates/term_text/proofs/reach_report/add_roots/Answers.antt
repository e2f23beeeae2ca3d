use Rattle.std.proofs.Common.{◌++◌, sym, ◌∙◌, ap, subst}
use Rattle.std.proofs.lemmas.List.{append_assoc}
use Rattle.root_views.specs.Roots.{term_in}
use Rattle.root_views.specs.Seen.{root}
use Rattle.heap_reach.specs.Rounds.{IsReachOf}
use Rattle.term_text.specs.Reach.{root_elements}
use Rattle.term_text.proofs.reach_report.add_roots.Goals as goal

pub loop-found-preserved : goal.loop-found-preserved
loop-found-preserved c =
    let first = root c.in-Some.found in
    let rest = c.next.new.self in
    let so_far = c.loop-found.invariant.3 in (
      tt,
      tt,
      c.add_content.ensures.heap ∙ c.loop-found.invariant.2,
      (
        so_far.0 ++ term_in first.content,
        append_assoc so_far.0 (term_in first.content) (root_elements rest) ∙ ap (λ rs. so_far.0 ++ root_elements rs) (sym c.in-Some.ensures.steps) ∙ so_far.1,
        λ roots exact. subst (IsReachOf c.add_content.new.reach) (append_assoc roots so_far.0 (term_in first.content))
            (c.add_content.ensures.roots (roots ++ so_far.0) (so_far.2 roots exact)),
      ),
    )
