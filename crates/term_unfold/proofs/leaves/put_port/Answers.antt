use Rattle.std.proofs.Common.{◌++◌, ap, append-nil}
use Rattle.dump_io.specs.Laws.Puts.{Puts-as}
use Rattle.std.specs.Prelude.{codes}
use Rattle.term_unfold.proofs.leaves.put_port.Goals as goal

pub returns : goal.returns
returns g c = Puts-as (ap (λ l. codes "#Port" ++ l) (append-nil c.args.port.now)) c.put_pieces.ensures
