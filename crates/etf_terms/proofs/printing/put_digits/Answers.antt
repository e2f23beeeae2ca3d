use Rattle.dump_io.specs.Numbers.{hex_byte}
use Rattle.dump_io.specs.Laws.Puts.{Puts-behind, Puts-stopped, Puts-as}
use Rattle.etf_terms.proofs.Digits.{digits-left}
use Rattle.etf_terms.proofs.printing.put_digits.Goals as goal

pub returns-in_err-write_all : goal.returns-in_err-write_all
returns-in_err-write_all g c =
    Puts-as (digits-left hex_byte c.args.digits.now c.loop-left.left c.loop-left-test.true c.loop-left.invariant.within)
    (Puts-behind c.loop-left.invariant.put (Puts-stopped _ c.from_residual.ensures.0 (Puts-as c.hex_pair.ensures c.in_err-write_all.ensures.puts)))
