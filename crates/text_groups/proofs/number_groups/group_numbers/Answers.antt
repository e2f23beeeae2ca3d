use Rattle.std.proofs.Common.{◌≡◌, ℕ, ◌+◌, ◌<◌, ◌≤◌, List, All, length, length-set, get_or, map, refl, sym, ◌∙◌, ap, subst, arith}
use Rattle.std.specs.Prelude.{slice_set}
use Rattle.std.proofs.lemmas.List.{length-map}
use Rattle.text_groups.specs.Inner.Numbers.{counted_group, number_item, AreLeftCounts}
use Rattle.text_groups.specs.Groups.{groups}
use Rattle.text_groups.specs.declared.text_group.TextGroup.{TextGroup}
use Rattle.text_groups.proofs.NumberFacts.{group-told, left-more, numbers-group}
use Rattle.text_groups.proofs.TallyFacts.{all-groups, appends-group, firsts-within, groups_upto}
use Rattle.text_groups.proofs.number_groups.group_numbers.Goals as goal

pub loop-i-preserved : goal.loop-i-preserved
loop-i-preserved c =
    let numbers = c.args.numbers.now in
    let items = map number_item numbers in
    let i = c.loop-i.i in
    let n = get_or numbers i 0 in
    let counts = c.loop-i.counts.items in
    let inside : i < length numbers = omega (arith, c.loop-i-test.true) in
    let within : i < length items = omega (arith, inside, length-map numbers number_item) in
    let below : n < length counts = omega (arith, c.requires i 0 inside, c.loop-i.invariant.len) in
    let told = group-told counts numbers i n inside refl below c.loop-i.invariant.left in
    let rest : c.take_count-count.new.counts.items ≡ slice_set counts n 0 = c.take_count-count.ensures.rest in
    record {
      groups = appends-group items i c.loop-i.groups.items _ _ within c.loop-i.invariant.groups
          (c.counted_group.ensures ∙ ap (counted_group i) c.take_count-count.ensures.count ∙ told) c.in_ok-push_group.ensures;
      left = subst (λ (l : List ℕ). AreLeftCounts l numbers (i + 1)) (sym rest) (left-more counts numbers i n inside refl below c.loop-i.invariant.left);
      len = ap length rest ∙ omega (arith, c.loop-i.invariant.len, length-set {A = ℕ});
    }

-- the groups of all numbers
all : (numbers : List ℕ) (i : ℕ) (found : List TextGroup) → length numbers ≤ i → found ≡ groups_upto (map number_item numbers) i → found ≡ groups (map number_item numbers)
all numbers i found ended are = are ∙ all-groups (map number_item numbers) i (omega (arith, ended, length-map numbers number_item))

pub returns-clause-groups : goal.returns-clause-groups
returns-clause-groups c = λ known texts have.
    let numbers = c.args.numbers.now in
    all numbers c.loop-i.i c.loop-i.groups.items (omega (arith, c.loop-i-test.false)) c.loop-i.invariant.groups ∙ numbers-group known texts numbers have

pub returns-clause-firsts : goal.returns-clause-firsts
returns-clause-firsts c =
    let numbers = c.args.numbers.now in
    let size : length (map number_item numbers) ≡ length numbers = length-map numbers number_item in
    subst (λ (n : ℕ). All (λ (group : TextGroup). group.first < n) c.loop-i.groups.items) size
    (subst (All (λ (group : TextGroup). group.first < length (map number_item numbers)))
    (sym {A = List TextGroup} (all numbers c.loop-i.i c.loop-i.groups.items (omega (arith, c.loop-i-test.false)) c.loop-i.invariant.groups)) (firsts-within (map number_item numbers)))
