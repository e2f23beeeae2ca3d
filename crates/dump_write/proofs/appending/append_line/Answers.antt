use Rattle.dump_io.specs.Laws.Puts.{WritesAll-then, WritesAll-stopped}
use Rattle.dump_write.proofs.appending.append_line.Goals as goal

pub returns-in_err-append_pieces : goal.returns-in_err-append_pieces
returns-in_err-append_pieces c = WritesAll-stopped _ c.from_residual.ensures.0 c.in_err-append_pieces.ensures

pub returns : goal.returns
returns c = WritesAll-then c.in_ok-append_pieces.ensures c.append.ensures
