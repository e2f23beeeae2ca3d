use Rattle.dump_io.specs.Laws.Puts.{Puts-then, Puts-stopped, Puts-as}
use Rattle.etf_terms.proofs.printing.put_begun.Goals as goal

pub returns-in_err-put_own : goal.returns-in_err-put_own
returns-in_err-put_own g c = Puts-stopped _ c.from_residual.ensures.0 c.in_err-put_own.ensures

pub returns : goal.returns
returns g c = Puts-then c.in_ok-put_own.ensures (Puts-as c.end_text.ensures c.write_all.ensures.puts)
