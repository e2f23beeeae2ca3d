use Rattle.std.proofs.Common.{drop, map}
use Rattle.serde.specs.Event.{Log}
use Rattle.serde_json.specs.Events.{SendsMembers}
use Rattle.json_report.specs.Inner.Members.{shown_member}
use Rattle.json_report.specs.Trees.{members}
use Rattle.json_report.proofs.members.send_object.Given as goal

-- whatever ends the object well from here ends it well from its first member
abbrev pub invariant-loop-key : goal.invariant-loop-key
invariant-loop-key g l =
    (end : Log) → SendsMembers (members (map shown_member (drop l.key-index l.members))) (g.S.Serializer.written l.out) end
    → SendsMembers (members (map shown_member l.members)) (g.S.Serializer.written l.initial.out) end
