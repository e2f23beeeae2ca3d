use Rattle.std.proofs.Common.{◌<◌, ◌++◌, length, sym, ◌∙◌, ap, subst, arith}
use Rattle.std.specs.Option.{option_and_then, option_to_list}
use Rattle.dump_io.specs.Dumps.{ReadsAtMost}
use Rattle.dump_io.specs.Laws.Reads.{ReadsAtMost-then, ReadsAtMost-both}
use Rattle.heap_cells.specs.HeapMap.{form_at}
use Rattle.binary_refs.specs.Previews.{preview_entry, stated}
use Rattle.binary_refs.proofs.EntryFacts.{by_number-more, reads-more, reads-upto}
use Rattle.binary_refs.proofs.previews.read_entries.Goals as goal

pub returns-in_err-push_entry-clause-reads : goal.returns-in_err-push_entry-clause-reads
returns-in_err-push_entry-clause-reads g c =
    let inside : c.loop-n.n < length c.args.heap.now.cells = omega (arith, c.loop-n-test.true, c.cells-n-end.ensures.value) in
    ReadsAtMost-both c.loop-n.invariant.reads c.in_err-push_entry.ensures.reads (reads-upto c.args.heap.now.cells c.loop-n.n inside)

pub loop-n-preserved : goal.loop-n-preserved
loop-n-preserved g c =
    let d = g.D.Dumps in
    let cells = c.args.heap.now.cells in
    let n = c.loop-n.n in
    let before = c.loop-n.invariant in
    let one = c.in_ok-push_entry.ensures in
    record {
      reads = subst (ReadsAtMost (d.state c.args.dumps.now) (d.state c.push_entry.new.dumps)) (reads-more cells n) (ReadsAtMost-then before.reads one.reads);
      stated = one.stated ∙ (ap (λ l. l ++ option_to_list (option_and_then (stated n) (form_at cells n))) before.stated ∙ sym (by_number-more stated cells n));
      entries = λ dump is.
          let f = preview_entry dump c.args.places.now c.args.heap.now.enc cells in
          one.entry dump (before.reads.same_now ∙ is)
          ∙ (ap (λ l. l ++ option_to_list (option_and_then (f n) (form_at cells n))) (before.entries dump is) ∙ sym (by_number-more f cells n));
    }
