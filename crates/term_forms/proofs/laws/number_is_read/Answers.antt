use Rattle.term_forms.proofs.Hexes.{led_full, led_sound}
use Rattle.term_forms.proofs.laws.number_is_read.Goals as goal

pub returns : goal.returns
returns c = λ text n rest. (led_sound text n rest, led_full text n rest)
