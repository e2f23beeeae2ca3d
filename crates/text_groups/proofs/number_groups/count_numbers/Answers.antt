use Rattle.std.proofs.Common.{◌≡◌, ◌<◌, ◌^◌, length, get_or, ◌∙◌, arith, rules}
use Rattle.std.proofs.lemmas.List.{get_or_default}
use Rattle.text_groups.proofs.NumberFacts.{count-few}
use Rattle.text_groups.proofs.number_groups.count_numbers.Goals as goal

pub overflow_add-index_mut : goal.overflow_add-index_mut
overflow_add-index_mut c =
    let n = get_or c.args.numbers.now c.loop-n.n-index 0 in
    let below : n < length c.loop-n.counts.items = omega (arith, c.requires c.loop-n.n-index 0 c.loop-n-test.true, c.loop-n.invariant.len) in
    let few : length c.args.numbers.now < 2 ^ 63 = search rules in
    let was : c.index_mut.result.now ≡ get_or c.loop-n.counts.items n 0 = c.index_mut.ensures.value ∙ get_or_default c.loop-n.counts.items n c.index_mut.result.now 0 below in
    omega (arith, few, was, c.loop-n.invariant.counts.each n below, count-few c.args.numbers.now c.loop-n.n-index n, c.loop-n-test.true)
