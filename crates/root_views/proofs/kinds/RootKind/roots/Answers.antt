use Rattle.std.proofs.Common.{◌*◌, ◌≤◌, length, sym, subst, arith}
use Rattle.std.proofs.lemmas.Grind.{common_steps}
use Rattle.root_views.proofs.KindFacts.{roots-few}
use Rattle.root_views.proofs.kinds.RootKind.roots.Goals as goal

pub returns-clause-value : goal.returns-clause-value
returns-clause-value c = grind (arith, common_steps)

pub returns-clause-few : goal.returns-clause-few
returns-clause-few c = subst (λ roots. length roots ≤ 2 * length c.args.body.now) (sym (returns-clause-value c)) (roots-few c.args.self c.args.body.now)
