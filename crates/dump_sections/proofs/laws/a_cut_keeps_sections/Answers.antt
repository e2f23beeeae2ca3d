use Rattle.dump_sections.proofs.Cutting.{sections_cut}
use Rattle.dump_sections.proofs.laws.a_cut_keeps_sections.Goals as goal

pub returns : goal.returns
returns c = sections_cut
