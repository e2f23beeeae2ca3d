use Rattle.std.proofs.lemmas.Result.{on_ok_weaker}
use Rattle.body_lines.specs.Lines.{one_line}
use Rattle.heap_parts.proofs.HearFacts.{hears-lines, stops-any}
use Rattle.heap_parts.proofs.address_sink.AddressSinkLineSink.long_line.Goals as goal

pub returns-clause-hears : goal.returns-clause-hears
returns-clause-hears c =
    on_ok_weaker c.line.result (λ heard. hears-lines c.args.self.now c.line.new.self (one_line c.args.at c.args.front.now c.args._size) (heard c.args._size)) c.line.ensures

pub returns-clause-stops : goal.returns-clause-stops
returns-clause-stops c = stops-any c.args.self.now c.line.new.self (one_line c.args.at c.args.front.now c.args._size) c.line.result
