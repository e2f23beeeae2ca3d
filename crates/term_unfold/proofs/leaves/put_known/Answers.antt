use Rattle.dump_io.specs.Laws.Puts.{Puts-then, Puts-stopped, Puts-as}
use Rattle.term_unfold.proofs.leaves.put_known.Goals as goal

pub returns-in_err-put_digits : goal.returns-in_err-put_digits
returns-in_err-put_digits g c = Puts-stopped _ c.from_residual.ensures.0 c.in_err-put_digits.ensures

pub returns : goal.returns
returns g c = Puts-then c.in_ok-put_digits.ensures (Puts-as c.dots_text.ensures c.write_all.ensures.puts)
