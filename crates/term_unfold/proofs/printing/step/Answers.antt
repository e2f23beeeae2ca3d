use Rattle.std.proofs.Common.{◌≡◌, ◌-◌, suc, drop, sym, ◌∙◌, ap, arith}
use Rattle.std.specs.Option.{option_map}
use Rattle.term_unfold.specs.Inner.Children.{child_shown}
use Rattle.term_unfold.specs.Inner.Rest.{rest, turn_text}
use Rattle.term_unfold.specs.Leaves.{leaf_text}
use Rattle.term_unfold.proofs.Turning.{left-none}
use Rattle.term_unfold.proofs.Written.{Steps-text}
use Rattle.term_unfold.proofs.printing.step.Goals as goal

pub returns-in_default-clause-step : goal.returns-in_default-clause-step
returns-in_default-clause-step g c =
    let heap = c.args.heap.now.cells in
    let leaf = leaf_text c.args.heap.now.enc c.args.heap.now.cells c.args.previews.now in
    let before = c.args.path.now.entries in
    let e = c.args.entry in
    let none = sym c.child_at.ensures.child ∙ ap (option_map (child_shown heap)) c.in_default.is in
    Steps-text (rest leaf heap before c.args.left) c.close-text.result.now (rest leaf heap c.close-text.new.path.entries) c.args.left c.write_all.result c.counted.result c.counted.ensures c.write_all.ensures.puts
    (c.close-text.ensures.text leaf heap c.args.left (left-none heap e (drop 1 before) none))

pub returns-then-left-eq0-clause-step : goal.returns-then-left-eq0-clause-step
returns-then-left-eq0-clause-step g c =
    let heap = c.args.heap.now.cells in
    let leaf = leaf_text c.args.heap.now.enc c.args.heap.now.cells c.args.previews.now in
    let before = c.args.path.now.entries in
    let e = c.args.entry in
    let has = sym c.child_at.ensures.child ∙ ap (option_map (child_shown heap)) c.in-Some.is in
    Steps-text (rest leaf heap before c.args.left) c.cut-text.result.now (rest leaf heap c.cut-text.new.path.entries) 0 c.write_all-then-left-eq0.result c.counted-then-left-eq0.result
    c.counted-then-left-eq0.ensures c.write_all-then-left-eq0.ensures.puts
    (ap (rest leaf heap before) c.if-left-eq0.true ∙ c.cut-text.ensures.text leaf heap (child_shown heap c.in-Some.child) has)

pub returns-clause-step : goal.returns-clause-step
returns-clause-step g c =
    let heap = c.args.heap.now.cells in
    let leaf = leaf_text c.args.heap.now.enc c.args.heap.now.cells c.args.previews.now in
    let before = c.args.path.now.entries in
    let e = c.args.entry in
    let count : c.args.left ≡ suc (c.args.left - 1) = omega (arith, c.if-left-eq0.false) in
    Steps-text (rest leaf heap before c.args.left) (turn_text leaf heap (child_shown heap c.in-Some.child) c.visit_next-turn.result) (rest leaf heap c.visit_next-turn.new.path.entries) (c.args.left - 1)
    c.put_turn.result c.counted-2.result c.counted-2.ensures c.put_turn.ensures
    (ap (rest leaf heap before) count ∙ c.visit_next-turn.ensures.turn.text leaf (c.args.left - 1))
