use Rattle.dump_io.specs.Laws.Puts.{Puts-then, Puts-stopped}
use Rattle.etf_terms.proofs.printing.put_named.Goals as goal

pub returns-in_err-write_all : goal.returns-in_err-write_all
returns-in_err-write_all g c = Puts-stopped _ c.from_residual.ensures.0 c.in_err-write_all.ensures.puts

pub returns-in_err-put_atom : goal.returns-in_err-put_atom
returns-in_err-put_atom g c = Puts-then c.in_ok-write_all.ensures.puts (Puts-stopped _ c.from_residual-in_err-put_atom.ensures.0 c.in_err-put_atom.ensures)

pub returns : goal.returns
returns g c = Puts-then c.in_ok-write_all.ensures.puts (Puts-then c.in_ok-put_atom.ensures c.put_pieces.ensures)
