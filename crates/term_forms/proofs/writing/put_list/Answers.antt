use Rattle.dump_io.specs.Laws.Puts.{WritesAll-then, WritesAll-stopped}
use Rattle.term_forms.proofs.writing.put_list.Goals as goal

pub returns-in_err-put_elem : goal.returns-in_err-put_elem
returns-in_err-put_elem c =
    WritesAll-then c.in_ok-put_text.ensures (WritesAll-stopped _ c.from_residual-in_err-put_elem.ensures.0 c.in_err-put_elem.ensures)

pub returns-in_err-put_text-2 : goal.returns-in_err-put_text-2
returns-in_err-put_text-2 c =
    WritesAll-then c.in_ok-put_text.ensures (WritesAll-then c.in_ok-put_elem.ensures (WritesAll-stopped _ c.from_residual-in_err-put_text-2.ensures.0 c.in_err-put_text-2.ensures))

pub returns : goal.returns
returns c = WritesAll-then c.in_ok-put_text.ensures (WritesAll-then c.in_ok-put_elem.ensures (WritesAll-then c.in_ok-put_text-2.ensures c.put_elem-2.ensures))
