use Rattle.std.proofs.Common.{◌≡◌, [], length, map, filter, ◌∙◌, ap, subst}
use Rattle.std.specs.Prelude.{All}
use Rattle.std.specs.List.{flat_map}
use Rattle.dump_io.specs.Laws.Reads.{ReadsAtMost-within}
use Rattle.std.proofs.lemmas.List.{length-map}
use Rattle.dump_sections.specs.Index.{sections_in}
use Rattle.process_table.specs.Processes.{Process}
use Rattle.binary_holders.specs.Held.{holdings, whole_lines}
use Rattle.binary_holders.specs.Usage.{NamesProcess}
use Rattle.binary_holders.specs.Inner.Places.{heap_place, numbers_at, references_at}
use Rattle.binary_holders.specs.Inner.Counting.{HasCounted, is_listed}
use Rattle.binary_holders.proofs.UsingFacts.{binaries-are, fits, heaps-are, lines-are}
use Rattle.binary_holders.proofs.using.count_references.Goals as goal

pub returns-in_err-held-clause-reads : goal.returns-in_err-held-clause-reads
returns-in_err-held-clause-reads g c =
    ReadsAtMost-within (fits c.args.index.now c.args.procs.now.processes c.in_ok-heaps.heaps.items c.as_slice.result.now c.in_ok-heaps.ensures.places c.as_slice.ensures.value) c.in_err-held.ensures.reads

pub returns-clause-reads : goal.returns-clause-reads
returns-clause-reads g c =
    ReadsAtMost-within (fits c.args.index.now c.args.procs.now.processes c.in_ok-heaps.heaps.items c.as_slice.result.now c.in_ok-heaps.ensures.places c.as_slice.ensures.value) c.in_ok-held.ensures.reads

pub returns-clause-held : goal.returns-clause-held
returns-clause-held g c = λ dump is.
    c.in_ok-held.ensures.held dump is
    ∙ ap (λ l. filter (is_listed c.args.listed) (holdings c.args.targets.now l)) (binaries-are dump c.args.index.now c.args.procs.now.processes)

pub returns-clause-counted : goal.returns-clause-counted
returns-clause-counted g c = λ dump is.
    subst (λ l. HasCounted c.args.targets.now l [] c.count_all.new.sink.counts)
    (ap (map (numbers_at dump c.args.index.now)) c.as_slice.ensures.value ∙ heaps-are dump c.args.index.now c.args.procs.now.processes c.in_ok-heaps.heaps.items c.in_ok-heaps.ensures.places)
    (c.in_ok-held.ensures.counted dump is)

pub returns-clause-named : goal.returns-clause-named
returns-clause-named g c =
    let processes = c.args.procs.now.processes in
    let size : length c.as_slice.result.now ≡ length processes =
    ap length (c.as_slice.ensures.value ∙ c.in_ok-heaps.ensures.places) ∙ length-map processes (λ (p : Process). heap_place (sections_in c.args.index.now) p.pid) in
    subst (λ n. All (NamesProcess n) c.in_ok-held.held.items) size c.in_ok-held.ensures.named

pub returns-clause-lines : goal.returns-clause-lines
returns-clause-lines g c = λ dump is.
    let index = c.args.index.now in
    c.in_ok-held.ensures.lines dump is
    ∙ ap (λ l. whole_lines c.args.targets.now (flat_map (references_at dump index) l)) c.as_slice.ensures.value
    ∙ ap (whole_lines c.args.targets.now) (lines-are dump index c.args.procs.now.processes c.in_ok-heaps.heaps.items c.in_ok-heaps.ensures.places)
