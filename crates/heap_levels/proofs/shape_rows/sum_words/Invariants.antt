use Rattle.std.proofs.Common.{◌≡◌, ◌*◌, ◌^◌, ◌≤◌, take}
use Rattle.std.specs.List.{sum_by}
use Rattle.heap_levels.proofs.shape_rows.sum_words.Given as goal

-- the sum of the first ones, each of which has 64 bits
abbrev pub invariant-loop-own : goal.invariant-loop-own
invariant-loop-own l = record {
  sum : l.sum ≡ sum_by (λ words. words) (take l.own-index l.words);
  small : l.sum ≤ l.own-index * 2 ^ 64;
}
