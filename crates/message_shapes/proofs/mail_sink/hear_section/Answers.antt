use Rattle.dump_sections.specs.Bodies.{section_in}
use Rattle.message_shapes.proofs.HearingFacts.{section-tells}
use Rattle.message_shapes.proofs.mail_sink.hear_section.Goals as goal

pub returns-clause-tells : goal.returns-clause-tells
returns-clause-tells g c =
    let part = c.body_at-from.ensures in
    section-tells c.args.sink.now c.hear_roots.new.sink (g.D.Dumps.state c.args.dumps.now).now c.body_at-from.result.0 c.body_at-from.result.1 (section_in c.args.index.now c.args.place) part.start part.body
    c.in_ok-hear_roots.ensures.hears
