use Rattle.std.proofs.Common.{◌∙◌, ap, arith}
use Rattle.root_views.specs.Kinds.{roots_in}
use Rattle.root_views.specs.declared.kinds.RootKind.TheVariants.{Stack, Dict, Mail}
use Rattle.dump_trial.specs.Trial.{root_body}
use Rattle.dump_trial.specs.Inner.Tallies.{plus}
use Rattle.dump_trial.proofs.Sums.{tally-three, tally-read}
use Rattle.dump_trial.proofs.bad_roots.count_bodies.Goals as goal

pub returns-clause-tally : goal.returns-clause-tally
returns-clause-tally c =
    let bytes = c.args.held.now in
    let pid = c.args.pid.now in
    let walk = c.args.walker.now in
    let stacked = c.in_ok-stack.ensures.held in
    let walked = c.in_ok-stack.ensures.walker in
    c.plus-2.ensures ∙ ap (plus c.in_ok-stack.stack) c.plus.ensures
    ∙ tally-three walk.heap.cells (roots_in Stack (root_body bytes Stack pid)) (roots_in Dict (root_body bytes Dict pid)) (roots_in Mail (root_body bytes Mail pid))
    c.in_ok-stack.stack c.in_ok-dict.dict c.in_ok-mail.mail c.in_ok-stack.ensures.tally
    (tally-read walk _ _ bytes pid Dict _ walked stacked c.in_ok-dict.ensures.tally)
    (tally-read walk _ _ bytes pid Mail _ (c.in_ok-dict.ensures.walker ∙ walked) (c.in_ok-dict.ensures.held ∙ stacked) c.in_ok-mail.ensures.tally)

pub returns-clause-few : goal.returns-clause-few
returns-clause-few c =
    let stack = c.in_ok-stack.ensures.few in
    let dict = c.in_ok-dict.ensures.few in
    let mail = c.in_ok-mail.ensures.few in
    rw (c.plus-2.ensures, c.plus.ensures) (record { roots = omega (arith, stack.roots, dict.roots, mail.roots); bad = omega (arith, stack.bad, dict.bad, mail.bad) })
