use Rattle.term_unfold.proofs.PartPreviews.{enough}
use Rattle.term_unfold.proofs.laws.part_is_enough.Goals as goal

pub returns : goal.returns
returns c = enough
