use Rattle.std.proofs.Common.{◌∙◌, ap}
use Rattle.std.specs.Prelude.{option_map}
use Rattle.text_groups.proofs.TallyFacts.{grouped, takes-group, takes-text}
use Rattle.text_groups.proofs.grouping.take_group.Goals as goal

pub returns-in_err-tally-clause-group : goal.returns-in_err-tally-clause-group
returns-in_err-tally-clause-group g c =
    c.from_residual.ensures ∙ ap (option_map (grouped c.args.i)) c.in_err-tally.ensures.value
    ∙ takes-group (g.G.Grouped.items c.args.grouped.now) c.args.i c.text.result.now c.requires.place c.text.ensures c.args.tallies.now c.requires.left

pub returns-in_err-tally-clause-left : goal.returns-in_err-tally-clause-left
returns-in_err-tally-clause-left g c =
    takes-text (g.G.Grouped.items c.args.grouped.now) c.args.i c.text.result.now c.requires.place c.text.ensures c.args.tallies.now c.remove.new.self c.requires.left c.remove.ensures.updates

pub returns-clause-group : goal.returns-clause-group
returns-clause-group g c =
    ap (option_map (grouped c.args.i)) c.in_ok-tally.ensures.value
    ∙ takes-group (g.G.Grouped.items c.args.grouped.now) c.args.i c.text.result.now c.requires.place c.text.ensures c.args.tallies.now c.requires.left

pub returns-clause-left : goal.returns-clause-left
returns-clause-left g c =
    takes-text (g.G.Grouped.items c.args.grouped.now) c.args.i c.text.result.now c.requires.place c.text.ensures c.args.tallies.now c.remove.new.self c.requires.left c.remove.ensures.updates
