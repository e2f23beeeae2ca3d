use Rattle.std.proofs.Common.{refl, sym, ◌∙◌, ap, arith}
use Rattle.std.specs.Prelude.{is_some}
use Rattle.wait_requests.proofs.ExternalFacts.{line-found, line-large, line-none, line-other}
use Rattle.wait_requests.proofs.HeapFacts.{keeps-same, looks-found, looks-none, none-found}
use Rattle.wait_requests.proofs.heap_sink.hear_text.Goals as goal
use Rattle.wait_requests.proofs.heap_sink.hear_text.Goals.{then-line-via-then-line, then-line-via-else-line+then-is_none}

pub returns-in_default : goal.returns-in_default
returns-in_default c =
    let sink = c.args.sink.now in
    looks-none sink sink _ (keeps-same sink) refl (line-none sink.enc c.form_is_read.ensures.found sink.slots.now c.args.text.now (sym c.in_default.ensures))

pub returns-then-line : goal.returns-then-line
returns-then-line c =
    let sink = c.args.sink.now in
    let line = c.in-Some.line in
    looks-none sink sink _ (keeps-same sink) refl (elim c.then-line.branch [
      | then-line-via-then-line w ↦
          line-large sink.enc c.form_is_read.ensures.found sink.slots.now c.args.text.now line.address line.size line.chars.now (sym c.in-Some.ensures) (omega (arith, w.if-line.true))
      | then-line-via-else-line+then-is_none w ↦
          line-other sink.enc c.form_is_read.ensures.found sink.slots.now c.args.text.now line.address line.size line.chars.now (sym c.in-Some.ensures) (ap is_some (sym w.get.ensures) ∙ w.if-is_none.ensures)
    ])

pub returns-in-Some-place : goal.returns-in-Some-place
returns-in-Some-place c =
    let sink = c.args.sink.now in
    let line = c.in-Some.line in
    looks-found sink (record sink { first = c.min-sink.result; text = c.before_external.new.text }) _ _ c.in-Some-place.place (record { enc = refl; slots = refl; asked = refl }) c.min-sink.ensures (sym c.in-Some-place.is ∙ c.in_ok-place.ensures)
    (line-found sink.enc c.form_is_read.ensures.found sink.slots.now c.args.text.now line.address line.size line.chars.now (sym c.in-Some.ensures) (omega (arith, c.if-line.false)) (ap is_some (sym c.get.ensures) ∙ c.if-is_none.ensures))

pub returns-in_default-place : goal.returns-in_default-place
returns-in_default-place c =
    let sink = c.args.sink.now in
    let line = c.in-Some.line in
    looks-none sink (record sink { text = c.before_external.new.text }) _ (record { enc = refl; slots = refl; asked = refl }) refl
    (line-found sink.enc c.form_is_read.ensures.found sink.slots.now c.args.text.now line.address line.size line.chars.now (sym c.in-Some.ensures) (omega (arith, c.if-line.false)) (ap is_some (sym c.get.ensures) ∙ c.if-is_none.ensures)
    ∙ none-found sink.asked.now _ (sym c.in_default-place.is ∙ c.in_ok-place.ensures))
