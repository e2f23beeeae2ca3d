use Rattle.dump_io.specs.Laws.Puts.{WritesAll-then}
use Rattle.term_forms.proofs.writing.put_tagged.Goals as goal

pub returns : goal.returns
returns c = WritesAll-then c.in_ok-put_text.ensures c.put_text-2.ensures
