use Rattle.std.proofs.Common.{drop, sym, ◌∙◌, ap, drop-drop}
use Rattle.process_table.specs.Signals.{has_signal}
use Rattle.process_table.proofs.Words.{signal-later}
use Rattle.process_table.proofs.signals.has_signal.Goals as goal

pub loop-size-preserved : goal.loop-size-preserved
loop-size-preserved c =
    let rest = c.loop-size.rest.now in
    let size = c.loop-size.size in
    let next = c.bytes_behind-rest.ensures ∙ ap (drop 3) c.bytes_from.ensures ∙ drop-drop 3 size rest in
    record {
      same = c.loop-size.invariant.same ∙ signal-later rest size c.loop-size.invariant.words c.loop-size-test.true (sym c.is_signal.ensures ∙ c.if-is_signal.false) ∙ ap has_signal (sym next);
      within = c.word_len-size-in-loop-size.ensures.within;
      words = c.word_len-size-in-loop-size.ensures.words;
    }
