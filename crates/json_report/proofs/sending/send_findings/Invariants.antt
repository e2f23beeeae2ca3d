use Rattle.std.proofs.Common.{drop, map, take}
use Rattle.std.specs.Prelude.{All}
use Rattle.serde.specs.Event.{Log}
use Rattle.serde_json.specs.Events.{SendsItems}
use Rattle.serde_json.specs.View.{items_of}
use Rattle.json_report.specs.Laws.{Has64Bits}
use Rattle.json_report.specs.Trees.{finding_object}
use Rattle.json_report.proofs.sending.send_findings.Given as goal

-- whatever ends the array well from here ends it well from its first object
abbrev pub invariant-loop-finding : goal.invariant-loop-finding
invariant-loop-finding g l = record {
  sends : (end : Log) → SendsItems (items_of (map (finding_object l.procs.processes) (drop l.finding-index l.findings))) (g.S.Serializer.written l.out) end
      → SendsItems (items_of (map (finding_object l.procs.processes) l.findings)) (g.S.Serializer.written l.initial.out) end;
  bits : All Has64Bits (take l.finding-index l.findings);
}
