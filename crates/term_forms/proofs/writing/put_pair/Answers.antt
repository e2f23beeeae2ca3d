use Rattle.dump_io.specs.Laws.Puts.{WritesAll-then, WritesAll-stopped}
use Rattle.term_forms.proofs.writing.put_pair.Goals as goal

pub returns-in_err-put_text : goal.returns-in_err-put_text
returns-in_err-put_text c =
    WritesAll-then c.in_ok-put_hex.ensures (WritesAll-stopped _ c.from_residual-in_err-put_text.ensures.0 c.in_err-put_text.ensures)

pub returns : goal.returns
returns c = WritesAll-then c.in_ok-put_hex.ensures (WritesAll-then c.in_ok-put_text.ensures c.put_hex-2.ensures)
