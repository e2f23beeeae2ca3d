use Rattle.heap_parts.specs.Inner.Hearing.{heard_binary, heard_place}
use Rattle.heap_parts.proofs.HearFacts.{first-heard}
use Rattle.heap_parts.proofs.address_sink.AddressSink.first_line.Goals as goal

pub returns-clause-heard : goal.returns-clause-heard
returns-clause-heard c =
    let size = c.line_len-size in
    first-heard heard_place c.args.self.now.lines.items c.line.new.self.lines.items c.args.at c.args.run.now size.result c.min-front.result size.ensures.within size.ensures.first
    c.min-front.ensures (c.in_ok-line.ensures size.result).taken

pub returns-clause-binaries : goal.returns-clause-binaries
returns-clause-binaries c =
    let size = c.line_len-size in
    first-heard heard_binary c.args.self.now.binaries.items c.line.new.self.binaries.items c.args.at c.args.run.now size.result c.min-front.result size.ensures.within size.ensures.first
    c.min-front.ensures (c.in_ok-line.ensures size.result).binaries
