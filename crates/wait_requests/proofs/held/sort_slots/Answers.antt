use Rattle.wait_requests.proofs.HeldFacts.{slots-sorted}
use Rattle.wait_requests.proofs.held.sort_slots.Goals as goal

pub returns-in-Ok-clause-slots : goal.returns-in-Ok-clause-slots
returns-in-Ok-clause-slots c = λ addresses are. slots-sorted c.in-Ok.sorted c.args.slots.items addresses c.in-Ok.ensures are
