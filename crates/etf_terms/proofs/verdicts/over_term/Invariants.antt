use Rattle.std.proofs.Common.{◌≡◌, ◌≤◌, length, ◌+◌, ◌*◌, ◌^◌}
use Rattle.etf_terms.specs.Walks.{walk_terms}
use Rattle.etf_terms.proofs.verdicts.over_term.Given as goal

abbrev pub invariant-loop-pending : goal.invariant-loop-pending
invariant-loop-pending l =
    record {
      same : walk_terms l.pending l.rest ≡ walk_terms 1 l.bytes;
      few : l.pending + 2 ^ 34 * length l.rest ≤ 1 + 2 ^ 34 * length l.bytes;
    }

abbrev pub decreases-loop-pending : goal.decreases-loop-pending
decreases-loop-pending l = length l.rest
