-- Counts of roots that are added.
use Rattle.std.specs.Prelude.{ℕ, ◌+◌, ◌≤◌}
use Rattle.dump_trial.specs.declared.tally.Tally.{Tally}

-- two counts together
abbrev pub plus : Tally → Tally → Tally
plus a b = record { roots = a.roots + b.roots; bad = a.bad + b.bad }

-- there are at most this many roots
pub record AreAtMost (most : ℕ) (tally : Tally) : Type 0 where
  pub roots : tally.roots ≤ most
  pub bad : tally.bad ≤ most
