use Rattle.dump_io.specs.Laws.Puts.{WritesAll-then, WritesAll-stopped}
use Rattle.term_forms.proofs.writing.put_sized.Goals as goal

pub returns-in_err-put_hex : goal.returns-in_err-put_hex
returns-in_err-put_hex c =
    WritesAll-then c.in_ok-put_text.ensures (WritesAll-stopped _ c.from_residual-in_err-put_hex.ensures.0 c.in_err-put_hex.ensures)

pub returns : goal.returns
returns c = WritesAll-then c.in_ok-put_text.ensures (WritesAll-then c.in_ok-put_hex.ensures c.put_tagged.ensures)
