use Rattle.std.proofs.Common.{◌≡◌, ℕ, ◌+◌, List, length, get_or, set, sym, ◌∙◌, ap, subst, arith}
use Rattle.std.proofs.lemmas.List.{length-set}
use Rattle.cell_records.specs.Order.{number_with, IsNumberIn}
use Rattle.heap_skeleton.specs.Inner.Resolving.{IsSettling}
use Rattle.heap_skeleton.specs.Inner.Targets.{number_for}
use Rattle.heap_skeleton.proofs.ResolveFacts.{settling-more}
use Rattle.heap_skeleton.proofs.resolving.settle_far.Goals as goal

pub loop-k-preserved : goal.loop-k-preserved
loop-k-preserved c =
    let pair = c.get-address.ensures in
    let before = c.loop-k.invariant in
    let found = subst (λ (l : List (ℕ × ℕ)). IsNumberIn l c.get-address.result.0 c.find-found.result) before.search c.find-found.ensures.number in
    let numbers : c.put_number.new.numbers ≡ set c.loop-k.numbers (get_or c.args.far.now c.loop-k.k (0, 0)).1 (number_for c.args.kinds.now c.args.to_binary c.find-found.result) =
    c.put_number.ensures ∙ ap (λ (r : ℕ × ℕ). set c.loop-k.numbers r.1 c.number_for-number.result) pair
    ∙ ap (set c.loop-k.numbers (get_or c.args.far.now c.loop-k.k (0, 0)).1) c.number_for-number.ensures in
    record {
      search = c.find-found.ensures.same ∙ before.search;
      count = ap length numbers ∙ length-set c.loop-k.numbers _ _ ∙ before.count;
      settled = λ addresses leads ranked are count.
          subst (λ (l : List ℕ). IsSettling addresses c.args.kinds.now leads c.args.far.now c.args.numbers.now l (c.loop-k.k + 1)) (sym numbers)
          (settling-more addresses c.args.kinds.now leads c.args.to_binary c.args.far.now c.args.numbers.now c.loop-k.numbers c.loop-k.k c.find-found.result (omega arith) are
          (before.count ∙ count) (found addresses ranked ∙ ap (λ (r : ℕ × ℕ). number_with addresses r.0) pair) (before.settled addresses leads ranked are count));
    }

pub returns-clause-settled : goal.returns-clause-settled
returns-clause-settled c = λ addresses leads ranked are count.
    let last : c.loop-k.k ≡ length c.args.far.now = omega arith in
    subst (λ (n : ℕ). IsSettling addresses c.args.kinds.now leads c.args.far.now c.args.numbers.now c.loop-k.numbers n) last (c.loop-k.invariant.settled addresses leads ranked are count)
