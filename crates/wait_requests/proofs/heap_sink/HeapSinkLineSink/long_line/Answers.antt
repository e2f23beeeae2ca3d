use Rattle.std.proofs.Common.{subst}
use Rattle.std.proofs.lemmas.Result.{on_ok_weaker}
use Rattle.body_lines.specs.Lines.{one_line}
use Rattle.wait_requests.specs.Inner.Hearing.{text_words, LooksUp}
use Rattle.wait_requests.proofs.HeapFacts.{hears-one, stops-any}
use Rattle.wait_requests.proofs.heap_sink.HeapSinkLineSink.long_line.Goals as goal

pub returns-clause-hears : goal.returns-clause-hears
returns-clause-hears c =
    let sink = c.args.self.now in
    on_ok_weaker c.hear_text.result (λ looks. hears-one sink c.hear_text.new.sink c.args.at c.args.size c.args.front.now
    (subst (λ t. LooksUp sink c.hear_text.new.sink (text_words sink.enc sink.slots.now t)) c.line_text.ensures looks)) c.hear_text.ensures

pub returns-clause-stops : goal.returns-clause-stops
returns-clause-stops c = stops-any c.args.self.now c.hear_text.new.sink (one_line c.args.at c.args.front.now c.args.size) c.hear_text.result
