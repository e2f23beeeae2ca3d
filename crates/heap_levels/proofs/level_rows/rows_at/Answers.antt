use Rattle.std.proofs.Common.{◌≤◌, length, ◌∙◌, ap, arith}
use Rattle.std.proofs.lemmas.List.{take_all}
use Rattle.part_weights.specs.Held.{row_at, rows_at}
use Rattle.heap_levels.proofs.RowFacts.{held-within, map-next}
use Rattle.heap_levels.proofs.level_rows.rows_at.Goals as goal

pub push_part-requires-clause-part : goal.push_part-requires-clause-part
push_part-requires-clause-part c =
    held-within (length c.args.parts.now.parts) c.args.held.now c.loop-i.i c.held_at.result c.requires.held c.held_at.ensures

pub loop-i-preserved : goal.loop-i-preserved
loop-i-preserved c =
    map-next (row_at c.args.skeleton.now c.args.parts.now.parts) c.args.held.now c.loop-i.i c.held_at.result c.loop-i.rows c.push_part.new.rows c.held_at.ensures c.loop-i.invariant c.in_ok-push_part.ensures

pub returns : goal.returns
returns c =
    let held = c.args.held.now in
    let all : length held ≤ c.loop-i.i = omega (arith, c.loop-i-test.false) in
    c.loop-i.invariant ∙ ap (rows_at c.args.skeleton.now c.args.parts.now.parts) (take_all c.loop-i.i held all)
