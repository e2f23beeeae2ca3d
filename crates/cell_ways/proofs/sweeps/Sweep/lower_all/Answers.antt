use Rattle.std.proofs.Common.{◌||◌, nat_eq, get_or, take, refl, ap, ◌∙◌}
use Rattle.std.proofs.lemmas.Option.{slice_get-get_or}
use Rattle.cell_graphs.specs.Frontiers.{is_on}
use Rattle.cell_ways.proofs.Giving.{any-more, same-eq}
use Rattle.cell_ways.proofs.Sweeping.{lowers-none, lowers-then}
use Rattle.cell_ways.proofs.sweeps.Sweep.lower_all.Goals as goal

pub loop-root-init : goal.loop-root-init
loop-root-init c = lowers-none c.args.self.now 0 _ (λ n. refl)

pub loop-root-preserved : goal.loop-root-preserved
loop-root-preserved c =
    let roots = c.args.roots.now in
    let i = c.loop-root.root-index in
    lowers-then c.args.self.now c.loop-root.self c.lower.new.self 0 _ _ _ c.loop-root.invariant c.lower.ensures
    (λ n.
    any-more (nat_eq n) roots i (get_or roots i 0) (slice_get-get_or roots i 0 c.loop-root-test.true)
    ∙ ap (λ b. is_on n (take i roots) || b) (same-eq n (get_or roots i 0)))
