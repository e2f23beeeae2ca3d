use Rattle.std.proofs.Common.{◌≡◌, ◌<◌, ◌&&◌, ◌∷◌, [], ◌++◌, not, length, take, sym, ◌∙◌, ap, arith}
use Rattle.std.specs.Prelude.{map}
use Rattle.std.proofs.lemmas.List.{take_more, map-append}
use Rattle.std.proofs.lemmas.Option.{unwrap_or-slice_get}
use Rattle.dump_sections.specs.Index.{dump_state}
use Rattle.process_table.specs.Processes.{nobody, process_at}
use Rattle.link_graph.specs.Texts.{is_local}
use Rattle.link_graph.specs.Lists.{links_at}
use Rattle.link_graph.specs.Graph.{links_of}
use Rattle.dump_audit.specs.Findings.{is_cut, is_judged}
use Rattle.link_graph.specs.Laws.{links-at}
use Rattle.dump_audit.proofs.auditing.all_judged.Goals as goal

pub loop-p-preserved : goal.loop-p-preserved
loop-p-preserved c =
    let processes = c.args.procs.now.processes in
    let p = c.loop-p.p in
    let inside : p < length processes = omega arith in
    let process = process_at processes p in
    let test = is_judged c.args.index.now in
    let links : links_at c.args.graph.now p ≡ links_of process.links = ap (λ g. links_at g p) c.requires ∙ links-at processes p in
    let judged : c.is_judged.result ≡ test process =
    c.is_judged.ensures
    ∙ ap (λ s. not (is_cut c.state-state.result s) && is_local c.pid.result.now && not c.unread.result) c.section.ensures
    ∙ ap (λ t. not (is_cut c.state-state.result process.section) && is_local t && not c.unread.result) c.pid.ensures
    ∙ ap (λ s. not (is_cut s process.section) && is_local process.pid && not c.unread.result) c.state-state.ensures.value
    ∙ ap (λ u. not (is_cut (dump_state c.args.index.now.headers) process.section) && is_local process.pid && not u) (c.unread.ensures ∙ ap (λ l. l.unread) links) in
    c.in_ok-push.ensures.items
    ∙ ap (λ l. l ++ c.is_judged.result ∷ []) c.loop-p.invariant
    ∙ ap (λ b. map test (take p processes) ++ b ∷ []) judged
    ∙ sym (map-append test (take p processes) (process ∷ []))
    ∙ ap (map test) (sym (take_more processes p nobody inside ∙ ap (λ y. take p processes ++ y ∷ []) (sym (unwrap_or-slice_get processes p nobody))))
