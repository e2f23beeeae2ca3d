use Rattle.std.proofs.Common.{ℕ, ◌+◌, ◌-◌, ◌*◌, ◌/◌, ◌<◌, ◌++◌, length, sym, ◌∙◌, ap, append-nil, arith}
use Rattle.wait_requests.proofs.TailFacts.{none-behind, word-pushed}
use Rattle.wait_requests.proofs.tails.push_words.Goals as goal

pub loop-left-init : goal.loop-left-init
loop-left-init c =
    let words = c.args.words.now in
    let few : length words < 4 * (length words / 4) + 4 = omega arith in
    record {
      within = omega arith;
      pushed = sym (ap (λ l. c.args.tail.now.items ++ l) (none-behind words (4 * (length words / 4)) few) ∙ append-nil c.args.tail.now.items);
    }

pub loop-left-preserved : goal.loop-left-preserved
loop-left-preserved c =
    let before = c.loop-left.invariant in
    let words = c.args.words.now in
    let at : ℕ = 4 * (c.loop-left.left - 1) in
    let some : 0 < c.loop-left.left = omega (arith, c.loop-left-test.true) in
    record {
      within = omega (arith, before.within);
      pushed =
          c.in_ok-push_word.ensures
          ∙ word-pushed words c.args.tail.now.items c.loop-left.tail.items at (4 * c.loop-left.left) (at + 1) (at + 2) (at + 3)
          (omega (arith, some)) (omega arith) (omega arith) (omega arith) (omega (arith, before.within, some)) before.pushed;
    }
