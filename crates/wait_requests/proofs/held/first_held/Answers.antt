use Rattle.std.proofs.Common.{refl, ◌∙◌, ap, subst}
use Rattle.std.specs.List.{between}
use Rattle.dump_sections.specs.Bodies.{body_in, section_in}
use Rattle.heap_cells.specs.Loading.{enc_of}
use Rattle.wait_requests.proofs.ExternalFacts.{AreForms}
use Rattle.wait_requests.proofs.HeldFacts.{first-found}
use Rattle.wait_requests.proofs.LongFacts.{AreSized}
use Rattle.wait_requests.proofs.PayloadFacts.{ArePayloads}
use Rattle.wait_requests.proofs.held.first_held.Goals as goal

pub returns-in-Ok-clause-first : goal.returns-in-Ok-clause-first
returns-in-Ok-clause-first g c = λ dump is stack slots.
    let from = c.body_at-from.result.0 in
    let upto = c.body_at-from.result.1 in
    let found = section_in c.args.index.now c.args.place in
    let heard = c.in-Ok.ensures.hears in
    first-found (record { enc = c.enc_of-4.result; slots = c.args.slots; asked = c.args.asked; first = c.len.result; text = c.new.result }) c.hear_body.new.sink from heard.lines (between from upto dump) (body_in dump found) stack (enc_of c.args.index.now.version) c.args.asked.now
    (subst AreForms (c.enc_of.ensures ∙ ap enc_of c.version.ensures) c.form_is_read.ensures.found) c.number_is_read.ensures
    (subst ArePayloads (c.enc_of-3.ensures ∙ ap enc_of c.version-3.ensures) c.payload_bytes_are_read.ensures) (subst AreSized (c.enc_of-2.ensures ∙ ap enc_of c.version-2.ensures) c.payload_is_of_one.ensures.length)
    heard.heard (c.enc_of-4.ensures ∙ ap enc_of c.version-4.ensures) refl c.len.ensures slots (heard.are dump is) (c.body_at-from.ensures.body dump)
