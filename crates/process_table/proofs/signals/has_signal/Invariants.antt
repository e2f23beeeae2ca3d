use Rattle.std.proofs.Common.{◌≡◌, ◌∷◌, ◌≤◌, drop, length, take}
use Rattle.process_table.specs.Signals.{has_signal, state_words}
use Rattle.process_table.specs.Inner.Words.{words_left}
use Rattle.process_table.proofs.signals.has_signal.Given as goal

-- no word so far is a signal, and the next one has this size
abbrev pub invariant-loop-size : goal.invariant-loop-size
invariant-loop-size l = record {
  same : has_signal l.state ≡ has_signal l.rest;
  within : l.size ≤ length l.rest;
  words : state_words l.rest ≡ take l.size l.rest ∷ words_left (drop l.size l.rest);
}

abbrev pub decreases-loop-size : goal.decreases-loop-size
decreases-loop-size l = length l.rest
