use Rattle.std.proofs.Common.{◌≡◌, length, refl, sym, ◌∙◌, ap}
use Rattle.std.specs.Prelude.{slice_index, replicate}
use Rattle.std.proofs.lemmas.List.{length-replicate}
use Rattle.binary_holders.specs.Inner.Counting.{no_lines}
use Rattle.binary_holders.proofs.CountFacts.{nothing-counted, zeros-at}
use Rattle.binary_holders.proofs.counts.Counts.new.Goals as goal

pub returns-clause-counted : goal.returns-clause-counted
returns-clause-counted c = λ binaries count.
    let seen : c.in_ok-seen.seen.items ≡ replicate c.args.count 0 = c.in_ok-seen.ensures.items_if_clones_equal (λ y is. is) in
    let holders : c.in_ok-holders.holders.items ≡ replicate c.args.count 0 = c.in_ok-holders.ensures.items_if_clones_equal (λ y is. is) in
    nothing-counted binaries (record {
      turn = 1;
      count = 0;
      total = 0;
      heap = no_lines;
      lines = record { count = 0; unstored = 0 };
      seen = c.in_ok-seen.seen;
      holders = c.in_ok-holders.holders;
    }) refl refl refl
    (ap length seen ∙ length-replicate c.args.count 0 ∙ sym count)
    (ap length holders ∙ length-replicate c.args.count 0 ∙ sym count)
    (λ k. ap (λ l. slice_index l k) seen ∙ zeros-at c.args.count k)
    (λ k. ap (λ l. slice_index l k) holders ∙ zeros-at c.args.count k)
