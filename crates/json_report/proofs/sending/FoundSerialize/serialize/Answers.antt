use Rattle.std.proofs.Common.{◌≡◌, Result, Ok, Err, subst}
use Rattle.std.specs.Prelude.{All, OnOk}
use Rattle.serde.specs.Event.{Log}
use Rattle.serde_json.specs.Events.{SendsValue}
use Rattle.json_report.specs.Inner.Parts.{Parts, tree_of}
use Rattle.json_report.specs.Laws.{Has64Bits}
use Rattle.json_report.proofs.sending.FoundSerialize.serialize.Goals as goal

abbrev Sends : Log → Log → Parts → Type 0
Sends old new parts = SendsValue (tree_of parts) old new × All Has64Bits parts.found

both : {T E : Type 0} (old new : Log) (sent : Result T E) (p q : Parts) → p ≡ q → OnOk sent (SendsValue (tree_of p) old new) → OnOk sent (All Has64Bits p.found)
    → OnOk sent (Sends old new q)
both old new (Ok v) p q same tree bits = subst (Sends old new) same (tree, bits)
both old new (Err e) p q same tree bits = tt

pub returns : goal.returns
returns g c = both _ _ c.send_tree.result _ c.args.self.now c.self.view_is c.send_tree.ensures.tree c.send_tree.ensures.bits
