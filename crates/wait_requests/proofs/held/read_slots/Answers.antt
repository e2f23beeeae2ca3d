use Rattle.std.proofs.Common.{◌≡◌, ℕ, List, map, refl}
use Rattle.std.specs.List.{between}
use Rattle.dump_io.specs.Dumps.{IfTold}
use Rattle.dump_sections.specs.Bodies.{body_in, section_in}
use Rattle.wait_requests.specs.Held.{first_slots}
use Rattle.wait_requests.specs.Inner.Hearing.{keyed, AreSlots}
use Rattle.wait_requests.proofs.HeldFacts.{if-ok, slots-found}
use Rattle.wait_requests.proofs.held.read_slots.Goals as goal

pub returns-clause-slots : goal.returns-clause-slots
returns-clause-slots g c =
    if-ok (λ (sorted : List (ℕ × ℕ)). (addresses : List ℕ) → c.hear_roots.new.sink.slots.items ≡ map keyed addresses → AreSlots addresses sorted)
    (λ (sorted : List (ℕ × ℕ)). IfTold (g.D.Dumps.state c.args.dumps.now).now (λ dump. AreSlots (first_slots (body_in dump (section_in c.args.index.now c.args.place))) sorted))
    (λ sorted says dump is.
    let from = c.body_at-from.result.0 in
    let upto = c.body_at-from.result.1 in
    let found = section_in c.args.index.now c.args.place in
    let heard = c.in_ok-hear_roots.ensures.hears in
    says (first_slots (body_in dump found))
    (slots-found (record { awaited = 2; slots = c.new.result }) c.hear_roots.new.sink from from heard.lines (between from upto dump) (body_in dump found) heard.heard refl c.new.ensures.items (heard.are dump is) (c.body_at-from.ensures.body dump)))
    c.sort_slots.result c.sort_slots.ensures.slots
