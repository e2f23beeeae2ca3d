use Rattle.std.proofs.lemmas.Result.{on_ok_weaker}
use Rattle.heap_parts.proofs.WholeFacts.{line-pushed}
use Rattle.heap_parts.proofs.heap_lines.HeapLines.push_line.Goals as goal

pub returns-clause-pushed : goal.returns-clause-pushed
returns-clause-pushed g c = on_ok_weaker c.push_text.result (λ text all has.
    line-pushed c.args.self.now (g.D.Dumps.state c.args.dumps.now).now all c.args.addr c.span-from.result c.args.text.now.items c.push_text.new.lines.items has c.requires.room.whole c.span-from.ensures.span text)
    c.push_text.ensures.pushed
