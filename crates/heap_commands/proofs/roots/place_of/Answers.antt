use Rattle.std.proofs.Common.{◌∙◌, ap}
use Rattle.dump_sections.specs.Index.{sections_in}
use Rattle.dump_sections.specs.Lookups.{first_named}
use Rattle.heap_commands.proofs.roots.place_of.Goals as goal

pub returns-clause-section : goal.returns-clause-section
returns-clause-section c = c.first.ensures.section ∙ ap (λ tag. first_named tag c.args.pid.now (sections_in c.args.at.now.index.now)) c.tag.ensures
