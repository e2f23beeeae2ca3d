use Rattle.std.proofs.Common.{◌≡◌, ◌+◌, ◌<◌, length, take, ◌∙◌, ap, arith, ℕ, List, [], ◌∷◌, ◌++◌, sym}
use Rattle.std.specs.List.{sum_by}
use Rattle.std.proofs.lemmas.List.Sums.{sum_by_push}
use Rattle.std.proofs.lemmas.List.{take_more}
use Rattle.std.proofs.lemmas.Option.{unwrap_or-slice_get}
use Rattle.process_table.specs.Processes.{process_at, Process, nobody}
use Rattle.link_graph.specs.Lists.{links_at}
use Rattle.link_graph.specs.Laws.{links-at}
use Rattle.report_text.specs.Links.{entry_count}
use Rattle.report_text.proofs.link_report.entry_total.Goals as goal

-- one process more
take-process : (processes : List Process) (p : ℕ) → p < length processes → take (p + 1) processes ≡ take p processes ++ process_at processes p ∷ []
take-process processes p inside =
    take_more processes p nobody inside ∙ ap (λ process. take p processes ++ process ∷ []) (sym (unwrap_or-slice_get processes p nobody))

pub loop-p-preserved : goal.loop-p-preserved
loop-p-preserved c =
    let processes = c.args.procs.now.processes in
    let p = c.loop-p.p in
    let inside : p < length processes = omega (arith, c.len-p-end.ensures.value, c.loop-p-test.true) in
    let count : c.count.result ≡ entry_count (process_at processes p) =
    c.count.ensures ∙ ap (λ g. length (links_at g p).entries) c.requires ∙ ap (λ l. length l.entries) (links-at processes p) in
    let more : sum_by entry_count (take (p + 1) processes) ≡ sum_by entry_count (take p processes) + entry_count (process_at processes p) =
    ap (sum_by entry_count) (take-process processes p inside) ∙ sum_by_push entry_count (take p processes) (process_at processes p) in
    (omega (arith, c.loop-p.invariant.0, count, more), omega (arith, c.loop-p.invariant.1))
