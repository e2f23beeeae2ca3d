use Rattle.std.proofs.Common.{rules, sym, subst}
use Rattle.dump_io.specs.Dumps.{ReadsAtMost}
use Rattle.dump_sections.specs.LoadingLaws.{bodies-two}
use Rattle.heap_cells.proofs.heap.Heap.load_at.Goals as goal

pub returns-clause-loads : goal.returns-clause-loads
returns-clause-loads g c =
    record {
      reads = subst (ReadsAtMost _ _) (sym (bodies-two _ _)) c.read_texts.ensures.reads;
      allowed = search rules;
      unread = search rules;
      fault = search rules;
    }
