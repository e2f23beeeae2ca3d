use Rattle.std.proofs.Common.{◌≡◌, ℕ, List, [], ◌++◌, ap, codes, append_assoc}
use Rattle.std.specs.Prelude.{decimal}
use Rattle.dump_io.specs.Laws.Puts.{Puts-then, Puts-stopped, Puts-as}
use Rattle.etf_terms.proofs.printing.put_some.Goals as goal

joined : (first : ℕ) (more : List ℕ) → (codes "[" ++ (decimal first ++ [])) ++ more ≡ codes "[" ++ (decimal first ++ more)
joined first more = ap (λ l. codes "[" ++ l) (append_assoc (decimal first) [] more)

pub returns-in_err-put_pieces : goal.returns-in_err-put_pieces
returns-in_err-put_pieces g c = Puts-as (joined _ _) (Puts-stopped _ c.from_residual.ensures.0 c.in_err-put_pieces.ensures)

pub returns-in_err-put_numbers : goal.returns-in_err-put_numbers
returns-in_err-put_numbers g c =
    Puts-as (joined _ _) (Puts-then c.in_ok-put_pieces.ensures (Puts-stopped _ c.from_residual-in_err-put_numbers.ensures.0 c.in_err-put_numbers.ensures))

pub returns : goal.returns
returns g c = Puts-as (joined _ _) (Puts-then c.in_ok-put_pieces.ensures (Puts-then c.in_ok-put_numbers.ensures c.write_all.ensures.puts))
