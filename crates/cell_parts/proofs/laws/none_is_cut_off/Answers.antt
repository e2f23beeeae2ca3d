use Rattle.cell_parts.proofs.Opening.{never-more}
use Rattle.cell_parts.proofs.laws.none_is_cut_off.Goals as goal

pub returns : goal.returns
returns c = never-more
