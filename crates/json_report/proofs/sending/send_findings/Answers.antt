use Rattle.std.proofs.Common.{◌≡◌, [], drop, map, Some, sym, ◌∙◌, subst, arith}
use Rattle.std.specs.Prelude.{All}
use Rattle.std.proofs.lemmas.List.{drop_all, length-map, take_all}
use Rattle.std.proofs.lemmas.List.Elements.{All-more}
use Rattle.std.proofs.lemmas.Result.{on_ok_weaker}
use Rattle.serde.specs.Event.{Logs, seq_begins}
use Rattle.serde_json.specs.Events.{SendsItems}
use Rattle.serde_json.specs.View.{items_of}
use Rattle.json_report.specs.Trees.{finding_object}
use Rattle.json_report.specs.Laws.{Has64Bits}
use Rattle.json_report.proofs.ReadingBack.{SendsItems-more, items_len-items_of}
use Rattle.json_report.proofs.sending.send_findings.Goals as goal

pub loop-finding-preserved : goal.loop-finding-preserved
loop-finding-preserved g c =
    let found = c.args.findings.now in
    let object = finding_object c.args.procs.now.processes in
    let l = c.loop-finding in
    let i = l.finding-index in
    let inside = c.loop-finding-test.true in
    record {
      sends = λ end rest. l.invariant.sends end (SendsItems-more object found i _ _ _ end inside c.in_ok-send_finding.ensures.object rest);
      bits = All-more Has64Bits found i _ inside l.invariant.bits c.in_ok-send_finding.ensures.bits;
    }

pub returns-clause-bits : goal.returns-clause-bits
returns-clause-bits g c =
    let found = c.args.findings.now in
    on_ok_weaker c.end_seq.result (λ _. subst (All Has64Bits) (take_all c.loop-finding.finding-index found (omega arith)) c.loop-finding.invariant.bits) c.end_seq.ensures

pub returns-clause-objects : goal.returns-clause-objects
returns-clause-objects g c =
    let found = c.args.findings.now in
    let object = finding_object c.args.procs.now.processes in
    let i = c.loop-finding.finding-index in
    let first = g.S.Serializer.written c.begin_seq.new.self in
    let end = g.S.Serializer.written c.end_seq.new.self in
    let count = sym (items_len-items_of (map object found) ∙ length-map found object) in
    let begun = subst (λ n. Logs (g.S.Serializer.written c.args.out.now) first (seq_begins (Some n))) count c.in_ok-begin_seq.ensures in
    let none : drop i found ≡ [] = drop_all i found (omega arith) in
    on_ok_weaker c.end_seq.result (λ ended. (
      first,
      begun,
      c.loop-finding.invariant.sends end (subst (λ rest. SendsItems (items_of (map object rest)) (g.S.Serializer.written c.loop-finding.out) end) (sym none) ended),
    )) c.end_seq.ensures
