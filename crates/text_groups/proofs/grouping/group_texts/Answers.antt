use Rattle.std.proofs.Common.{◌<◌, ◌≤◌, List, length, All, sym, ◌∙◌, subst, arith}
use Rattle.text_groups.specs.declared.text_group.TextGroup.{TextGroup}
use Rattle.text_groups.proofs.TallyFacts.{all-groups, appends-group, firsts-within}
use Rattle.text_groups.proofs.grouping.group_texts.Goals as goal

pub loop-i-preserved : goal.loop-i-preserved
loop-i-preserved g c =
    let items = g.G.Grouped.items c.args.grouped.now in
    let i = c.loop-i.i in
    let inside : i < length items = omega (arith, c.loop-i-test.true, c.len-i-end.ensures) in
    record {
      groups = appends-group items i c.loop-i.groups.items _ _ inside c.loop-i.invariant.groups c.take_group.ensures.group c.in_ok-push_group.ensures;
      left = c.take_group.ensures.left;
    }

pub returns-clause-groups : goal.returns-clause-groups
returns-clause-groups g c =
    let items = g.G.Grouped.items c.args.grouped.now in
    let all : length items ≤ c.loop-i.i = omega (arith, c.loop-i-test.false, c.len-i-end.ensures) in
    c.loop-i.invariant.groups ∙ all-groups items c.loop-i.i all

pub returns-clause-firsts : goal.returns-clause-firsts
returns-clause-firsts g c =
    let items = g.G.Grouped.items c.args.grouped.now in
    subst (All (λ (group : TextGroup). group.first < length items)) (sym {A = List TextGroup} (returns-clause-groups g c)) (firsts-within items)
