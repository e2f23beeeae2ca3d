use Rattle.std.proofs.Common.{◌≡◌, [], drop, map, Some, sym, ◌∙◌, subst, arith}
use Rattle.std.proofs.lemmas.List.{drop_all, length-map}
use Rattle.std.proofs.lemmas.Result.{on_ok_weaker}
use Rattle.serde.specs.Event.{Logs, map_begins}
use Rattle.serde_json.specs.Events.{SendsMembers}
use Rattle.json_report.specs.Inner.Members.{shown_member}
use Rattle.json_report.specs.Trees.{members}
use Rattle.json_report.proofs.ReadingBack.{members_len-members}
use Rattle.json_report.proofs.members.send_object.Goals as goal

pub returns : goal.returns
returns g c =
    let ms = c.args.members.now in
    let i = c.loop-key.key-index in
    let first = g.S.Serializer.written c.begin_map.new.self in
    let end = g.S.Serializer.written c.end_map.new.self in
    let count = sym (members_len-members (map shown_member ms) ∙ length-map ms shown_member) in
    let begun = subst (λ n. Logs (g.S.Serializer.written c.args.out.now) first (map_begins (Some n))) count c.in_ok-begin_map.ensures in
    let none : drop i ms ≡ [] = drop_all i ms (omega arith) in
    on_ok_weaker c.end_map.result (λ ended. (
      first,
      begun,
      c.loop-key.invariant end (subst (λ rest. SendsMembers (members (map shown_member rest)) (g.S.Serializer.written c.loop-key.out) end) (sym none) ended),
    )) c.end_map.ensures
