use Rattle.std.proofs.Common.{◌≡◌, ◌+◌, ◌*◌, ◌≤◌, ℕ, suc, max, length}
use Rattle.etf_terms.specs.Depth.{depth}
use Rattle.etf_terms.specs.Terms.{Term, IsTerm}
use Rattle.etf_terms.specs.Inner.Awaiting.{Awaits}
use Rattle.etf_terms.proofs.nesting.height.Given as goal

-- the most that were open, and that will be, are those of the whole
abbrev pub invariant-loop-count : goal.invariant-loop-count
invariant-loop-count l = record {
  within : length l.wanted ≤ l.most;
  awaits : (term : Term) → IsTerm l.bytes term → (later : ℕ) × Awaits l.wanted l.rest later × (max l.most later ≡ suc (depth term));
}

abbrev pub decreases-loop-count : goal.decreases-loop-count
decreases-loop-count l = 2 * length l.rest + length l.wanted
