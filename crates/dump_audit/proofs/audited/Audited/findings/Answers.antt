use Rattle.std.proofs.Common.{◌≡◌, ◌≤◌, ◌<◌, ◌++◌, length, Some, sym, ◌∙◌, ap, arith}
use Rattle.std.specs.Prelude.{flat_map, slice_get}
use Rattle.std.specs.List.{enumerate_from}
use Rattle.std.proofs.lemmas.List.{take_all}
use Rattle.process_table.specs.Laws.{process_at-there}
use Rattle.process_table.specs.Processes.{process_at}
use Rattle.dump_audit.specs.Findings.{process_findings}
use Rattle.dump_audit.specs.Laws.{all-at}
use Rattle.dump_audit.proofs.audited.Audited.findings.Goals as goal

pub loop-p-preserved : goal.loop-p-preserved
loop-p-preserved c =
    let a = c.args.self.now in
    let p = c.loop-p.p in
    let inside : p < length a.processes = omega arith in
    let at : slice_get a.processes p ≡ Some (process_at a.processes p) = process_at-there a.processes p inside in
    c.in_ok-add_process.ensures
    ∙ ap (λ l. l ++ process_findings a (p, process_at a.processes p)) c.loop-p.invariant
    ∙ sym (all-at (process_findings a) a.processes p (process_at a.processes p) at)

pub returns : goal.returns
returns c =
    let a = c.args.self.now in
    let all : length a.processes ≤ c.loop-p.p = omega arith in
    c.loop-p.invariant ∙ ap (λ l. flat_map (process_findings a) (enumerate_from 0 l)) (take_all c.loop-p.p a.processes all)
