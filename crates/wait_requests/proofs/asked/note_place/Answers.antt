use Rattle.std.proofs.Common.{sym}
use Rattle.std.proofs.lemmas.Map.Text.{btree_map_updates_str}
use Rattle.wait_requests.proofs.AskedFacts.{noted-new}
use Rattle.wait_requests.proofs.asked.note_place.Goals as goal

pub returns-in_ok-insert-in-None-clause-noted : goal.returns-in_ok-insert-in-None-clause-noted
returns-in_ok-insert-in-None-clause-noted c =
    noted-new c.args.reference.now c.in-Some.tail.now c.args.place (sym c.in-Some.ensures) c.args.places.now c.insert.new.self (sym c.in-None.ensures.value)
    (btree_map_updates_str c.in-Some.tail.now c.args.places.now c.insert.new.self _ c.in_ok-insert-in-None.ensures.updates)
