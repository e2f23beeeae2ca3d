use Rattle.std.proofs.Common.{◌++◌, take, sym, ◌∙◌, ap, append_assoc}
use Rattle.std.specs.Option.{option_to_list}
use Rattle.link_graph.specs.Seen.{shown_entry}
use Rattle.dump_audit.specs.Findings.{entry_finding, entry_findings}
use Rattle.dump_audit.specs.Inner.Audited.{entries_in, held}
use Rattle.dump_audit.specs.Laws.{told-at}
use Rattle.dump_audit.proofs.audited.Audited.add_entries.Goals as goal

pub loop-number-preserved : goal.loop-number-preserved
loop-number-preserved c =
    let a = c.args.self.now in
    let p = c.args.holder.now.p in
    let process = held a c.args.holder.now in
    let entries = entries_in process in
    let n = c.loop-number.number in
    let before = entry_findings a p process (take n entries) in
    c.in_ok-push_found.ensures
    ∙ ap (λ l. l ++ option_to_list c.finding.result) c.loop-number.invariant
    ∙ append_assoc c.args.findings.now.items before (option_to_list c.finding.result)
    ∙ ap (λ f. c.args.findings.now.items ++ (before ++ option_to_list f)) c.finding.ensures
    ∙ ap (λ l. c.args.findings.now.items ++ l)
    (sym (told-at (λ numbered. entry_finding a p process numbered.0 numbered.1.at numbered.1.kind) entries n (shown_entry c.entry_at-entry.result) c.entry_at-entry.ensures))
