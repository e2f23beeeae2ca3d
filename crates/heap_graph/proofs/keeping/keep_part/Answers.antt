use Rattle.std.proofs.Common.{◌+◌, drop, ◌∙◌, arith}
use Rattle.std.specs.List.{flat_map}
use Rattle.heap_graph.specs.Held.{kept_references, line_at}
use Rattle.heap_graph.specs.Laws.Keeping.{left-parts, left-split, left-within}
use Rattle.heap_graph.proofs.keeping.keep_part.Goals as goal

pub split_at-requires : goal.split_at-requires
split_at-requires c =
    let lines = c.requires.holds.lines in
    let is = c.requires.holds.held_is in
    left-within c.args.held.now lines c.loop-i.i c.addresses_at.result c.loop-i.rest.now is (omega (arith, c.loop-i-test.true, c.requires.within))
    (c.loop-i.invariant.left lines is) (c.addresses_at.ensures lines is)

pub loop-i-preserved : goal.loop-i-preserved
loop-i-preserved c =
    let held = c.args.held.now in
    let i = c.loop-i.i in
    let left = c.loop-i.rest.now in
    let f = kept_references held.elements in
    record {
      small = c.in_ok-keep_next.ensures.small;
      alike = c.in_ok-keep_next.ensures.alike;
      left = λ lines is.
          let split = left-split held lines i left is (omega (arith, c.loop-i-test.true, c.requires.within)) (c.loop-i.invariant.left lines is) in
          c.split_at.ensures.back ∙ (left-parts (f (line_at lines i)) (flat_map f (drop (i + 1) lines)) left c.addresses_at.result split (c.addresses_at.ensures lines is)).1;
      kept = λ start lines is.
          let split = left-split held lines i left is (omega (arith, c.loop-i-test.true, c.requires.within)) (c.loop-i.invariant.left lines is) in
          let own = c.split_at.ensures.front ∙ (left-parts (f (line_at lines i)) (flat_map f (drop (i + 1) lines)) left c.addresses_at.result split (c.addresses_at.ensures lines is)).0 in
          c.in_ok-keep_next.ensures.keeps lines is own (c.loop-i.invariant.kept start lines is);
    }
