use Rattle.std.proofs.lemmas.Result.{on_ok_weaker}
use Rattle.heap_parts.proofs.GrowFacts.{Grows-then}
use Rattle.heap_parts.proofs.search.visit.Goals as goal

pub returns-in-Some-clause-grows : goal.returns-in-Some-clause-grows
returns-in-Some-clause-grows g c = on_ok_weaker c.open_line.result (λ grows. Grows-then c.in_ok-line.ensures.grows grows) c.open_line.ensures.grows
