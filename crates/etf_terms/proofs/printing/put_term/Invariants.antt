use Rattle.std.proofs.Common.{◌≡◌, ◌+◌, ◌*◌, List, ℕ, length}
use Rattle.etf_terms.specs.Terms.{Term, IsTerm}
use Rattle.etf_terms.specs.Text.{text}
use Rattle.dump_io.specs.Sinks.{HasPutPart}
use Rattle.etf_terms.specs.Inner.Standing.{Stands}
use Rattle.etf_terms.proofs.printing.put_term.Given as goal

-- what was written, and what the entries still have to write, are the whole text
abbrev pub invariant-loop-entry : goal.invariant-loop-entry
invariant-loop-entry g l = record {
  room : l.stack.room ≡ l.fn.stack.room;
  stands : (term : Term) → IsTerm l.bytes term
      → (to_come : List ℕ) × HasPutPart (g.K.Sink.state l.fn.sink) (g.K.Sink.state l.sink) (text term) to_come × Stands l.stack.room l.stack.entries l.rest to_come;
}

abbrev pub decreases-loop-entry : goal.decreases-loop-entry
decreases-loop-entry g l = 2 * length l.rest + length l.stack.entries
