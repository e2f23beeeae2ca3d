use Rattle.dump_sections.specs.Bodies.{section_in}
use Rattle.tuple_fronts.proofs.HearFacts.{section-hears}
use Rattle.tuple_fronts.proofs.front_lines.hear_section.Goals as goal

pub returns-clause-hears : goal.returns-clause-hears
returns-clause-hears g c =
    let part = c.body_at-from.ensures in
    section-hears c.args.sink.now c.hear_whole_lines.new.sink (g.D.Dumps.state c.args.dumps.now).now c.body_at-from.result.0 c.body_at-from.result.1 (section_in c.args.index.now c.args.place) part.start part.body c.in_ok-hear_whole_lines.ensures.hears
