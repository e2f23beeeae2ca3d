use Rattle.std.proofs.Common.{[], ◌++◌, ◌∙◌, ap, append-nil}
use Rattle.dump_io.specs.Laws.Puts.{Puts-as}
use Rattle.std.specs.Prelude.{codes}
use Rattle.dump_io.specs.Numbers.{hexadecimal}
use Rattle.term_unfold.specs.Text.{reason}
use Rattle.term_unfold.proofs.leaves.put_bad.Goals as goal

pub returns : goal.returns
returns g c =
    Puts-as (ap (λ l. codes "!" ++ (l ++ (codes ":" ++ (hexadecimal c.args.addr ++ [])))) c.why_text.ensures
    ∙ ap (λ l. codes "!" ++ (reason c.args.why ++ (codes ":" ++ l))) (append-nil (hexadecimal c.args.addr))) c.put_pieces.ensures
