use Rattle.std.proofs.Common.{◌≡◌, ℕ, List, ◌++◌, ap, codes, append_assoc}
use Rattle.std.specs.Prelude.{decimal}
use Rattle.dump_io.specs.Laws.Puts.{Puts-then, Puts-stopped, Puts-as}
use Rattle.etf_terms.proofs.printing.put_bin.Goals as goal

joined : (size : ℕ) (more : List ℕ) → (codes "#Bin<" ++ (decimal size ++ codes ":")) ++ more ≡ codes "#Bin<" ++ (decimal size ++ (codes ":" ++ more))
joined size more = ap (λ l. codes "#Bin<" ++ l) (append_assoc (decimal size) _ more)

pub returns-in_err-put_pieces : goal.returns-in_err-put_pieces
returns-in_err-put_pieces g c = Puts-as (joined _ _) (Puts-stopped _ c.from_residual.ensures.0 c.in_err-put_pieces.ensures)

pub returns : goal.returns
returns g c = Puts-as (joined _ _) (Puts-then c.in_ok-put_pieces.ensures c.put_preview.ensures)
