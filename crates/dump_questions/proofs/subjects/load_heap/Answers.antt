use Rattle.std.specs.Option.{option_to_list}
use Rattle.dump_sections.specs.Bodies.{section_in}
use Rattle.dump_questions.proofs.subjects.load_heap.Goals as goal

pub returns : goal.returns
returns g c = c.load_behind.ensures (option_to_list (section_in c.args.at.now.index.now c.args.place)) c.large_body.ensures.fault
