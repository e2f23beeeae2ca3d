use Rattle.dump_io.specs.Laws.Puts.{Puts-then, Puts-stopped}
use Rattle.term_unfold.proofs.printing.put_turn.Goals as goal

pub returns-in_err-write_all : goal.returns-in_err-write_all
returns-in_err-write_all g c = Puts-stopped _ c.from_residual.ensures.0 c.in_err-write_all.ensures.puts

pub returns : goal.returns
returns g c = Puts-then c.in_ok-write_all.ensures.puts c.put_own.ensures
