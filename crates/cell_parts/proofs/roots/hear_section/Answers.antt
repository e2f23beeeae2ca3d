use Rattle.dump_sections.specs.Bodies.{section_in}
use Rattle.cell_parts.proofs.HearFacts.{section-gains}
use Rattle.cell_parts.proofs.roots.hear_section.Goals as goal

pub returns-clause-gains : goal.returns-clause-gains
returns-clause-gains g c =
    let part = c.body_at-from.ensures in
    section-gains c.args.roots.now c.hear_roots.new.sink (g.D.Dumps.state c.args.dumps.now).now c.args.kind c.body_at-from.result.0 c.body_at-from.result.1 (section_in c.args.index.now c.args.place) part.start part.body
    c.in_ok-hear_roots.ensures.hears
