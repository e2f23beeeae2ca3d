use Rattle.std.proofs.Common.{◌≡◌, length, map, filter, ◌∙◌, ap, subst}
use Rattle.std.specs.Prelude.{nat_lt}
use Rattle.std.specs.List.{count_by, sum_by}
use Rattle.std.proofs.lemmas.Result.{IfOk-weaker}
use Rattle.process_table.specs.Processes.{Process}
use Rattle.binary_holders.specs.declared.rows.BinaryRow.{BinaryRow}
use Rattle.binary_holders.specs.declared.rows.Holding.{Holding}
use Rattle.binary_holders.specs.declared.targets.Binary.{Binary}
use Rattle.text_groups.specs.Sums.{capped}
use Rattle.binary_holders.specs.Held.{has_binaries, whole_lines}
use Rattle.text_groups.specs.Sorting.{most_first}
use Rattle.binary_holders.specs.Usage.{binaries_in, heaps_of, held_of, lines_of, most_counted, rows_in}
use Rattle.binary_holders.specs.Inner.Rows.{AreRows}
use Rattle.binary_holders.proofs.UsingFacts.{both-ok, counted-are, rows-are, same-sizes, usage-same}
use Rattle.binary_holders.proofs.using.binary_use.Goals as goal

pub rows_of-requires-clause-sizes : goal.rows_of-requires-clause-sizes
rows_of-requires-clause-sizes g c =
    same-sizes c.in_ok-stored.targets c.in_ok-stored.stored.items c.in_ok-stored.ensures.numbers c.binaries-binaries.result.now c.as_slice-list.result.now (ap length c.binaries-binaries.ensures.value) (ap length c.as_slice-list.ensures.value)

pub rows_of-requires-clause-holders : goal.rows_of-requires-clause-holders
rows_of-requires-clause-holders g c =
    same-sizes c.in_ok-stored.targets c.in_ok-stored.stored.items c.in_ok-stored.ensures.numbers c.as_slice-holders.result.now c.as_slice-list.result.now (ap length c.as_slice-holders.ensures.value ∙ c.in_ok-held.ensures.room) (ap length c.as_slice-list.ensures.value)

pub returns-clause-found : goal.returns-clause-found
returns-clause-found g c =
    let index = c.args.index.now in
    let stored = c.in_ok-stored.ensures in
    let list = c.in_ok-stored.stored.items in
    let targets = c.in_ok-stored.targets in
    let had = c.in_ok-held.ensures in
    let counts = c.in_ok-held.counts in
    let rows = c.in_ok-rows.rows.items in
    let holders = c.as_slice-holders.result.now in
    let listed : AreRows index list c.binaries-binaries.result.now holders (length list) rows =
    subst (λ l. AreRows index l c.binaries-binaries.result.now holders (length l) rows) c.as_slice-list.ensures.value c.in_ok-rows.ensures.rows in
    let found : AreRows index list targets holders (length list) rows = subst (λ bs. AreRows index list bs holders (length list) rows) c.binaries-binaries.ensures.value listed in
    let sorted = c.sorted.ensures in
    IfOk-weaker c.sorted.result _ _
    (λ made all dump is.
    let told = stored.reads.same_now ∙ is in
    let sizes = stored.sizes dump is in
    let pids = map (λ (p : Process). p.pid) c.args.procs.now.processes in
    let heaps = heaps_of dump index pids in
    let told_rows : rows ≡ rows_in dump index heaps =
    rows-are dump index heaps list targets holders counts rows stored.stored sizes (had.counted dump told) c.as_slice-holders.ensures.value found in
    let processes = c.args.procs.now.processes in
    let held : c.in_ok-held.held.items ≡ filter has_binaries (held_of dump index processes (binaries_in dump index)) =
    had.held dump told ∙ ap (λ l. filter has_binaries (held_of dump index processes l)) sizes in
    usage-same (all.0 ∙ ap most_counted held)
    (all.1.0 ∙ ap (most_first (λ (r : BinaryRow). r.size)) told_rows)
    (all.1.1.0 ∙ c.capped-bytes.ensures ∙ ap capped c.total.ensures ∙ ap (λ l. capped (sum_by (λ (b : Binary). b.size) l)) sizes)
    (all.1.1.1.0 ∙ ap (count_by (λ (r : BinaryRow). nat_lt 0 r.holders)) told_rows)
    (all.1.1.1.1.0 ∙ had.lines dump told ∙ ap (λ l. whole_lines l (lines_of dump index pids)) sizes)
    (all.1.1.1.1.1 ∙ ap (λ l. capped (sum_by (λ (h : Holding). h.counted) l)) held ∙ ap capped (counted-are dump index processes (binaries_in dump index))))
    (both-ok c.sorted.result _ _ sorted.held (both-ok c.sorted.result _ _ sorted.binaries (both-ok c.sorted.result _ _ sorted.bytes
    (both-ok c.sorted.result _ _ sorted.with_holders (both-ok c.sorted.result _ _ sorted.lines sorted.counted)))))

pub returns-clause-named : goal.returns-clause-named
returns-clause-named g c = c.sorted.ensures.named (length c.args.procs.now.processes) c.in_ok-held.ensures.named
