use Rattle.cell_parts.proofs.Joining.{any-part}
use Rattle.cell_parts.proofs.laws.what_is_led_to_has_a_part.Goals as goal

pub returns : goal.returns
returns c = λ elements cell. any-part cell elements
