use Rattle.std.proofs.Common.{◌<◌, ◌^◌, length, arith, rules, ap}
use Rattle.root_views.proofs.root_count.root_count.Goals as goal

pub overflow_add-count : goal.overflow_add-count
overflow_add-count c =
    let few : length c.args.bytes.now < 2 ^ 63 = search rules in
    omega (arith, few, ap length c.in-Some.ensures.steps, c.loop-root.invariant.2, ap length c.roots-root-items.ensures.value, c.roots-root-items.ensures.few)

pub returns : goal.returns
returns c = omega (arith, c.loop-root.invariant.2, ap length c.in-None.ensures.steps.0)
