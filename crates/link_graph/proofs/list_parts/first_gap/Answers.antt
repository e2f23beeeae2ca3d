use Rattle.std.proofs.Common.{◌≡◌, ◌≢◌, ◌+◌, ◌-◌, ◌<◌, length, take, drop, arith}
use Rattle.std.specs.Prelude.{slice_index}
use Rattle.std.proofs.lemmas.Grind.{common_steps}
use Rattle.link_graph.proofs.Cuts.{found_space, gap-at, cut_to-more, cut-last}
use Rattle.link_graph.proofs.list_parts.first_gap.Goals as goal
use Rattle.link_graph.proofs.list_parts.first_gap.Goals.{else-space-gt0-via-then-space-gt0+else-text-at-eq44, else-space-gt0-via-else-space-gt0}

pub returns-then-text-at-eq44 : goal.returns-then-text-at-eq44
returns-then-text-at-eq44 c =
    let text = c.args.text.now in
    let from = c.loop-space.from in
    let rest : take (length text - from) (drop from text) ≡ drop from text = grind (arith, common_steps) in
    let space = found_space text (take (length text - from) (drop from text)) from c.in-Some.space rest c.in-Some.ensures in
    gap-at text from c.in-Some.space c.loop-space.invariant.1 space c.if-space-gt0.true c.if-text-at-eq44.true

pub loop-space-preserved : goal.loop-space-preserved
loop-space-preserved c =
    let text = c.args.text.now in
    let from = c.loop-space.from in
    let rest : take (length text - from) (drop from text) ≡ drop from text = grind (arith, common_steps) in
    let space = found_space text (take (length text - from) (drop from text)) from c.in-Some.space rest c.in-Some.ensures in
    let other : 0 < c.in-Some.space → slice_index text (from + c.in-Some.space - 1) ≢ 44 =
    elim c.else-space-gt0.branch [
      | else-space-gt0-via-then-space-gt0+else-text-at-eq44 w ↦ λ _. w.if-text-at-eq44.false
      | else-space-gt0-via-else-space-gt0 w ↦ λ some. absurd (omega (arith, some))
    ] in
    (omega (arith, space.fits), cut_to-more text from c.in-Some.space c.loop-space.invariant.1 space other)

pub returns : goal.returns
returns c =
    let text = c.args.text.now in
    let from = c.loop-space.from in
    let rest : take (length text - from) (drop from text) ≡ drop from text = grind (arith, common_steps) in
    cut-last text (take (length text - from) (drop from text)) from rest c.loop-space.invariant.1 c.in_default.ensures
