use Rattle.std.proofs.Common.{◌≤◌, length, ◌∙◌, arith}
use Rattle.std.proofs.lemmas.List.{take_all}
use Rattle.part_weights.specs.Shown.{row}
use Rattle.heap_levels.proofs.RowFacts.{copied-more}
use Rattle.heap_levels.proofs.level_rows.rows_copied.Goals as goal

pub loop-i-preserved : goal.loop-i-preserved
loop-i-preserved c = copied-more c.args.rows.now c.loop-i.i (row c.row.result) c.loop-i.copied c.push.new.self c.row.ensures c.loop-i.invariant c.in_ok-push.ensures

pub returns : goal.returns
returns c =
    let rows = c.args.rows.now in
    let all : length rows ≤ c.loop-i.i = omega (arith, c.loop-i-test.false) in
    c.loop-i.invariant ∙ take_all c.loop-i.i rows all
