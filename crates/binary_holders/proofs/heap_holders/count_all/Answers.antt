use Rattle.std.proofs.Common.{◌≡◌, ◌+◌, ◌<◌, [], ◌∷◌, ◌++◌, get_or, length, map, filter, take, None, sym, ◌∙◌, ap, subst, arith}
use Rattle.std.proofs.lemmas.List.{get_or-map, map_more, length-map, length-take-le}
use Rattle.std.proofs.lemmas.Option.{unwrap_or-slice_get}
use Rattle.std.proofs.lemmas.List.Sums.{sum_by_more}
use Rattle.std.specs.List.{flat_map, sum_by}
use Rattle.dump_io.specs.Dumps.{ReadsAtMost}
use Rattle.dump_io.specs.Laws.Reads.{ReadsAtMost-then}
use Rattle.binary_holders.specs.Held.{holdings, whole_lines}
use Rattle.dump_sections.specs.Index.{sections_in}
use Rattle.process_table.specs.Numbers.{binary_bytes}
use Rattle.process_table.specs.Processes.{Process, nobody}
use Rattle.binary_holders.specs.Inner.Places.{binaries_at, heap_place, numbers_at, references_at, size_at}
use Rattle.binary_holders.specs.Inner.Counting.{HasCounted, is_listed}
use Rattle.binary_holders.proofs.HoldingFacts.{lines-more}
use Rattle.binary_holders.proofs.heap_holders.count_all.Goals as goal

pub loop-process-preserved : goal.loop-process-preserved
loop-process-preserved g c =
    let d = g.D.Dumps in
    let before = c.loop-process.invariant in
    let one = c.in_ok-count_process.ensures in
    let heaps = c.args.heaps.now in
    let index = c.args.index.now in
    let p = c.loop-process.process in
    let inside : p < length heaps = omega (arith, c.loop-process-test.true) in
    let processes = c.args.procs.now.processes in
    let place = λ (process : Process). heap_place (sections_in index) process.pid in
    let there : p < length processes = omega (arith, inside, ap length c.requires.places, length-map processes place) in
    let owner = c.owner_at-owner.result in
    let at : owner.heap ≡ get_or heaps p None = c.owner_at-owner.ensures.heap in
    let placed : owner.heap ≡ place (get_or processes p nobody) =
    at ∙ ap (λ l. get_or l p None) c.requires.places ∙ get_or-map place processes p nobody None there in
    let stated : owner.counted ≡ binary_bytes (get_or processes p nobody) =
    c.owner_at-owner.ensures.counted ∙ ap binary_bytes (unwrap_or-slice_get processes p nobody) in
    record {
      buffer = omega (arith, before.buffer, c.count_process.auto.buffer);
      reads = subst (ReadsAtMost (d.state c.args.dumps.now) (d.state c.count_process.new.dumps)) (sym (sum_by_more (size_at index) heaps p None inside)) (subst (λ o. ReadsAtMost (d.state c.args.dumps.now) (d.state c.count_process.new.dumps) (sum_by (size_at index) (take p heaps) + size_at index o)) at (ReadsAtMost-then before.reads one.reads));
      enc = one.enc ∙ before.enc;
      targets = one.targets ∙ before.targets;
      turn = omega (arith, before.turn, one.turn);
      room = one.room;
      heap = one.heap;
      held = λ dump is.
          let told = before.reads.same_now ∙ is in
          let done = map (binaries_at dump index) (take p processes) in
          let counted = map (numbers_at dump index) (take p heaps) in
          let size : p ≡ length done = sym (length-map (take p processes) (binaries_at dump index) ∙ length-take-le p processes (omega (arith, there))) in
          let keeps = is_listed c.args.listed in
          let whole : binaries_at dump index (get_or processes p nobody) ≡ record { counted = owner.counted; references = references_at dump index owner.heap } =
          sym (λ i. record { counted = stated i; references = references_at dump index (placed i) }) in
          subst (λ b. HasCounted b counted [] c.loop-process.sink.counts → c.loop-process.held.items ≡ filter keeps (holdings b done)
          → c.count_process.new.held.items ≡ filter keeps (holdings b (done ++ record { counted = owner.counted; references = references_at dump index owner.heap } ∷ []))) before.targets
          (one.held dump told done counted (c.owner_at-owner.ensures.process ∙ size)) (before.had dump is) (before.held dump is)
          ∙ ap (λ l. filter keeps (holdings c.args.sink.now.targets.now (done ++ l ∷ []))) (sym whole)
          ∙ ap (λ l. filter keeps (holdings c.args.sink.now.targets.now l)) (sym (map_more (binaries_at dump index) processes p nobody there));
      named = one.named (length heaps) (omega (arith, inside, c.owner_at-owner.ensures.process)) before.named;
      had = λ dump is.
          let told = before.reads.same_now ∙ is in
          let done = map (numbers_at dump index) (take p heaps) in
          subst (λ l. HasCounted c.args.sink.now.targets.now l [] c.count_process.new.sink.counts) (ap (λ o. done ++ numbers_at dump index o ∷ []) at ∙ sym (map_more (numbers_at dump index) heaps p None inside))
          (subst (λ b. HasCounted b done [] c.loop-process.sink.counts → HasCounted b (done ++ numbers_at dump index owner.heap ∷ []) [] c.count_process.new.sink.counts) before.targets (one.counted dump told done) (before.had dump is));
      lines = λ dump is.
          let told = before.reads.same_now ∙ is in
          let done = flat_map (references_at dump index) (take p heaps) in
          subst (λ b. c.loop-process.sink.counts.lines ≡ whole_lines b done → c.count_process.new.sink.counts.lines ≡ whole_lines b (done ++ references_at dump index owner.heap)) before.targets
          (one.lines dump told done) (before.lines dump is)
          ∙ ap (whole_lines c.args.sink.now.targets.now) (ap (λ o. done ++ references_at dump index o) at ∙ sym (lines-more (references_at dump index) heaps p None inside));
    }

pub owner_at-owner-requires : goal.owner_at-owner-requires
owner_at-owner-requires g c =
    let processes = c.args.procs.now.processes in
    omega (arith, c.loop-process-test.true, ap length c.requires.places, length-map processes (λ (process : Process). heap_place (sections_in c.args.index.now) process.pid))
