use Rattle.std.proofs.Common.{◌≡◌, drop, take}
use Rattle.process_table.specs.Signals.{state_words}
use Rattle.process_table.specs.Inner.Words.{behind}
use Rattle.process_table.proofs.signals.word_len.Given as goal

-- no separator begins before the place
abbrev pub invariant-loop-i : goal.invariant-loop-i
invariant-loop-i l = state_words l.state ≡ behind (take l.i l.state) (state_words (drop l.i l.state))
