use Rattle.dump_io.specs.Laws.Puts.{Puts-then, Puts-stopped}
use Rattle.etf_terms.proofs.printing.put_float.Goals as goal

pub returns-in_err-write_all : goal.returns-in_err-write_all
returns-in_err-write_all g c = Puts-stopped _ c.from_residual.ensures.0 c.in_err-write_all.ensures.puts

pub returns-in_err-put_hex_bytes : goal.returns-in_err-put_hex_bytes
returns-in_err-put_hex_bytes g c = Puts-then c.in_ok-write_all.ensures.puts (Puts-stopped _ c.from_residual-in_err-put_hex_bytes.ensures.0 c.in_err-put_hex_bytes.ensures)

pub returns : goal.returns
returns g c = Puts-then c.in_ok-write_all.ensures.puts (Puts-then c.in_ok-put_hex_bytes.ensures c.write_all-2.ensures.puts)
