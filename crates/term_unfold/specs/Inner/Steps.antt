-- How far a call has come in a text that is written in steps.
use Rattle.std.specs.Prelude.{ℕ, ◌+◌, ◌*◌, ◌<◌, ◌≤◌, List, length, Result, Ok, Err, MatchResult, IfOk, OnErr}
use Rattle.dump_io.specs.Sinks.{SinkState, SinkFailed, GainedFront, HasPutPart}
use Rattle.term_unfold.specs.declared.path.Entry.{Entry}

-- a step wrote a part and returns the count that remains, or it failed somewhere in the whole
pub record Steps {E : Type 0} (before after : SinkState) (whole : List ℕ) (to_come : ℕ → List ℕ) (result : Result ℕ E) : Type 0 where
  pub later : before.faults ≤ after.faults
  pub writes : MatchResult result (λ m. HasPutPart before after whole (to_come m)) (λ _. GainedFront before after whole)
  pub failed : OnErr result (SinkFailed before after)

-- the remaining count, if a text was written
abbrev pub counted_of : {E : Type 0} → Result (Unit {0}) E → ℕ → Result ℕ E
counted_of (Ok x) m = Ok m
counted_of (Err e) m = Err e

-- a step brings the end closer
abbrev pub Falls : {E : Type 0} → List Entry → List Entry → ℕ → Result ℕ E → Type 0
Falls before after left result = IfOk result (λ m. 2 * m + length after < 2 * left + length before)
