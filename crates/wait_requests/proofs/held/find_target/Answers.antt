use Rattle.std.proofs.Common.{sym, ◌∙◌, ap}
use Rattle.dump_sections.specs.Bodies.{body_in, section_in}
use Rattle.wait_requests.specs.Inner.Asking.{target_at}
use Rattle.wait_requests.specs.Inner.Memories.{held_at}
use Rattle.wait_requests.proofs.PlaceFacts.{first-target}
use Rattle.wait_requests.proofs.held.find_target.Goals as goal

pub returns-clause-target : goal.returns-clause-target
returns-clause-target g c = λ dump is.
    let index = c.args.index.now in
    let asked = c.args.asked.now in
    let stack = body_in dump (section_in index c.args.memory.stack) in
    c.target.ensures
    ∙ ap (target_at asked) (c.in_ok-first.ensures.first dump (c.in_ok-slots.ensures.reads.same_now ∙ is) stack (c.in_ok-slots.ensures.slots dump is))
    ∙ sym (first-target (held_at dump index c.args.memory) asked)
