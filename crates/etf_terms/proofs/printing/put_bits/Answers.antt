use Rattle.std.proofs.Common.{◌≡◌, ℕ, List, ◌++◌, ap, codes, ◌∙◌, append_assoc}
use Rattle.std.specs.Prelude.{decimal}
use Rattle.dump_io.specs.Laws.Puts.{Puts-then, Puts-stopped, Puts-as}
use Rattle.etf_terms.proofs.printing.put_bits.Goals as goal

joined : (size bits : ℕ) (more : List ℕ) → (codes "#Bits<" ++ (decimal size ++ (codes "/" ++ (decimal bits ++ codes ":")))) ++ more
    ≡ codes "#Bits<" ++ (decimal size ++ (codes "/" ++ (decimal bits ++ (codes ":" ++ more))))
joined size bits more =
    ap (λ l. codes "#Bits<" ++ l) (append_assoc (decimal size) _ more ∙ ap (λ l. decimal size ++ (codes "/" ++ l)) (append_assoc (decimal bits) _ more))

pub returns-in_err-put_pieces : goal.returns-in_err-put_pieces
returns-in_err-put_pieces g c = Puts-as (joined _ _ _) (Puts-stopped _ c.from_residual.ensures.0 c.in_err-put_pieces.ensures)

pub returns : goal.returns
returns g c = Puts-as (joined _ _ _) (Puts-then c.in_ok-put_pieces.ensures c.put_preview.ensures)
