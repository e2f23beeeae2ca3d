use Rattle.std.proofs.Common.{ℕ, ap}
use Rattle.std.specs.Global.{Vec}
use Rattle.heap_parts.proofs.GrowFacts.{Grows-pushed}
use Rattle.heap_parts.proofs.gathered.add_line.Goals as goal

pub returns-clause-grows : goal.returns-clause-grows
returns-clause-grows g c =
    let state = g.D.Dumps.state in
    let one = c.in_ok-push_line.ensures in
    Grows-pushed c.args.from.now (state c.args.dumps.now) (state c.push_line.new.dumps) c.args.addr c.args.g.now.lines.items c.push_line.new.text.items _
    one.spent one.room one.longer one.pushed (ap (λ (v : Vec ℕ). v.items) c.in_ok-number.ensures)
