use Rattle.std.proofs.Common.{◌≡◌, ℕ, List, ◌++◌, ap, codes, ◌∙◌, append_assoc}
use Rattle.dump_io.specs.Laws.Puts.{Puts-then, Puts-stopped, Puts-as}
use Rattle.etf_terms.specs.Text.{digits_text}
use Rattle.etf_terms.proofs.printing.put_big.Goals as goal

joined : (front sign digits : List ℕ) → front ≡ sign → (front ++ codes "16#") ++ digits_text digits ≡ sign ++ (codes "16#" ++ digits_text digits)
joined front sign digits is = append_assoc front (codes "16#") (digits_text digits) ∙ ap (λ l. l ++ (codes "16#" ++ digits_text digits)) is

pub returns-in_err-put_pieces : goal.returns-in_err-put_pieces
returns-in_err-put_pieces g c =
    Puts-as (joined _ _ c.args.digits.now c.minus.ensures) (Puts-stopped (digits_text c.args.digits.now) c.from_residual.ensures.0 c.in_err-put_pieces.ensures)

pub returns : goal.returns
returns g c = Puts-as (joined _ _ c.args.digits.now c.minus.ensures) (Puts-then c.in_ok-put_pieces.ensures c.put_number.ensures)
