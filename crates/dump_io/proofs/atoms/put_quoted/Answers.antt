use Rattle.dump_io.specs.Laws.Puts.{Puts-then, Puts-stopped}
use Rattle.dump_io.proofs.atoms.put_quoted.Goals as goal

pub returns-in_err-put_quoted_bytes : goal.returns-in_err-put_quoted_bytes
returns-in_err-put_quoted_bytes g c =
    Puts-then c.in_ok-write_all.ensures.puts
    (Puts-stopped _ c.from_residual-in_err-put_quoted_bytes.ensures.0 c.in_err-put_quoted_bytes.ensures)

pub returns : goal.returns
returns g c = Puts-then c.in_ok-write_all.ensures.puts (Puts-then c.in_ok-put_quoted_bytes.ensures c.write_all-2.ensures.puts)
