use Rattle.std.proofs.Common.{subst}
use Rattle.wait_requests.specs.Inner.Hearing.{text_words, LooksUp}
use Rattle.wait_requests.proofs.HeapFacts.{first-heard}
use Rattle.wait_requests.proofs.heap_sink.hear_first.Goals as goal

pub returns-clause-heard : goal.returns-clause-heard
returns-clause-heard c =
    let sink = c.args.sink.now in
    let size = c.line_len-size in
    first-heard sink c.hear_text.new.sink c.args.run.now size.result c.min-front.result size.ensures.within size.ensures.first c.min-front.ensures
    (subst (λ t. LooksUp sink c.hear_text.new.sink (text_words sink.enc sink.slots.now t)) c.line_text.ensures c.in_ok-hear_text.ensures)
