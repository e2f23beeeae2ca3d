use Rattle.std.proofs.Common.{◌+◌, ◌∙◌, ap, arith}
use Rattle.std.proofs.lemmas.List.{length-take}
use Rattle.text_groups.specs.Sums.{capped}
use Rattle.text_groups.proofs.TallyFacts.{counts-item, made, tallied-few}
use Rattle.text_groups.proofs.grouping.count_item.Goals as goal

pub overflow_add-tally : goal.overflow_add-tally
overflow_add-tally g c =
    let items = g.G.Grouped.items c.args.grouped.now in
    omega (
      arith,
      ap (λ t. t.count) c.tally_in-before.ensures,
      tallied-few items c.args.i c.args.tallies.now c.text-text.result.now c.requires.before,
      length-take c.args.i items,
      c.requires.fits,
    )

pub returns : goal.returns
returns g c =
    let items = g.G.Grouped.items c.args.grouped.now in
    let before = c.tally_in-before.result in
    let after = made (before.count + 1) c.saturating_add.result in
    counts-item items c.args.i c.text-text.result.now c.requires.place c.text-text.ensures c.args.tallies.now c.insert.new.self before after c.requires.before c.tally_in-before.ensures
    (ap (made (before.count + 1)) (c.saturating_add.ensures ∙ ap (λ n. capped (before.weight + n)) c.weight-weight.ensures)) c.in_ok-insert.ensures.updates
