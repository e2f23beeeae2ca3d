use Rattle.dump_io.specs.Laws.Puts.{WritesAll-then, WritesAll-stopped}
use Rattle.term_forms.proofs.writing.put_range.Goals as goal

pub returns-in_err-put_hex : goal.returns-in_err-put_hex
returns-in_err-put_hex c =
    WritesAll-then c.in_ok-put_text.ensures (WritesAll-stopped _ c.from_residual-in_err-put_hex.ensures.0 c.in_err-put_hex.ensures)

pub returns-in_err-put_text-2 : goal.returns-in_err-put_text-2
returns-in_err-put_text-2 c =
    WritesAll-then c.in_ok-put_text.ensures (WritesAll-then c.in_ok-put_hex.ensures (WritesAll-stopped _ c.from_residual-in_err-put_text-2.ensures.0 c.in_err-put_text-2.ensures))

pub returns : goal.returns
returns c = WritesAll-then c.in_ok-put_text.ensures (WritesAll-then c.in_ok-put_hex.ensures (WritesAll-then c.in_ok-put_text-2.ensures c.put_pair.ensures))
