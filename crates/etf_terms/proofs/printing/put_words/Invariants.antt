use Rattle.std.proofs.Common.{length}
use Rattle.etf_terms.specs.Text.{words_text}
use Rattle.dump_io.specs.Sinks.{HasPutPart}
use Rattle.etf_terms.proofs.printing.put_words.Given as goal

abbrev pub invariant-loop-word : goal.invariant-loop-word
invariant-loop-word g l = record {
  part : HasPutPart (g.K.Sink.state l.fn.sink) (g.K.Sink.state l.sink) (words_text l.words) (words_text l.rest);
}

abbrev pub decreases-loop-word : goal.decreases-loop-word
decreases-loop-word g l = length l.rest
