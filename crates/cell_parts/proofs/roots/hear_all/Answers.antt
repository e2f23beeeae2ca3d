use Rattle.std.proofs.Common.{◌∙◌}
use Rattle.dump_sections.specs.Index.{sections_in}
use Rattle.cell_parts.proofs.HearFacts.{all-gains}
use Rattle.cell_parts.proofs.roots.hear_all.Goals as goal

pub returns-clause-gains : goal.returns-clause-gains
returns-clause-gains g c =
    let d = g.D.Dumps in
    let stack = c.in_ok-hear_kind.ensures in
    let dict = c.in_ok-hear_kind-2.ensures in
    all-gains c.args.roots.now c.hear_kind.new.roots c.hear_kind-2.new.roots c.hear_kind-3.new.roots (d.state c.args.dumps.now).now (d.state c.hear_kind.new.dumps).now (d.state c.hear_kind-2.new.dumps).now
    (sections_in c.args.index.now) c.args.pid.now stack.reads.same_now (dict.reads.same_now ∙ stack.reads.same_now) stack.gains dict.gains c.in_ok-hear_kind-3.ensures.gains
