use Rattle.std.proofs.Common.{◌≤◌, length, ◌∙◌, ap, arith}
use Rattle.std.proofs.lemmas.List.{take_all}
use Rattle.part_weights.specs.Shown.{row}
use Rattle.heap_levels.specs.Inner.Plain.{rows_labelled}
use Rattle.heap_levels.proofs.RowFacts.{labelled-more}
use Rattle.heap_levels.proofs.level_rows.rows_labelled.Goals as goal

pub loop-i-preserved : goal.loop-i-preserved
loop-i-preserved c =
    labelled-more c.args.labels.now c.args.from c.args.rows.now c.loop-i.i c.in_ok-place.place (row c.row.result) c.label_at.result.now c.loop-i.labelled c.push_labelled.new.labelled
    c.row.ensures c.in_ok-place.ensures c.label_at.ensures c.loop-i.invariant c.in_ok-push_labelled.ensures

pub returns : goal.returns
returns c =
    let rows = c.args.rows.now in
    let all : length rows ≤ c.loop-i.i = omega (arith, c.loop-i-test.false) in
    c.loop-i.invariant ∙ ap (rows_labelled c.args.labels.now c.args.from) (take_all c.loop-i.i rows all)
