use Rattle.std.proofs.Common.{◌<◌, Some, length, set, sym, ◌∙◌, ap, subst, arith}
use Rattle.std.specs.Option.{option_copied}
use Rattle.wait_requests.specs.Inner.Memories.{Notes}
use Rattle.wait_requests.proofs.MemoryFacts.{noted-here, notes-new}
use Rattle.wait_requests.proofs.memories.note_place.Goals as goal

pub returns-clause-notes : goal.returns-clause-notes
returns-clause-notes c =
    let processes = c.args.procs.now.processes in
    let old = c.args.places.now.items in
    let q = c.in-Some-get.process in
    let inside : q < length old = omega (arith, c.in-Some-get.ensures.within, c.requires.count) in
    subst (λ pid. Notes processes old (set old q (Some c.args.place)) pid c.args.place) (sym (ap option_copied c.in-Some.is))
    (notes-new processes old c.args.place c.in-Some.pid.now q (sym c.in-Some-get.ensures.place) inside
    (noted-here old q c.index.result.now inside c.index.ensures (sym c.is_some.ensures ∙ c.if-is_some.false)))
