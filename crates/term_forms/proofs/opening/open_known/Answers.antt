use Rattle.std.proofs.Common.{rules, sym, ◌∷◌, []}
use Rattle.std.specs.Prelude.{◌≢◌}
use Rattle.term_forms.specs.SeenForms.{heap_form}
use Rattle.term_forms.proofs.OfForms.{plain-without}
use Rattle.term_forms.proofs.opening.open_known.Goals as goal

pub list-requires : goal.list-requires
list-requires c = record { before = c.in_ok-tag.tag.now ∷ []; split = c.in_ok-tag.ensures.cases.0 }

pub counted-requires : goal.counted-requires
counted-requires c = record { before = c.in_ok-tag.tag.now ∷ []; split = c.in_ok-tag.ensures.cases.0 }

pub map-requires : goal.map-requires
map-requires c = record { before = c.in_ok-tag.tag.now ∷ []; split = c.in_ok-tag.ensures.cases.0 }

pub returns-in_ok-found-in_default-clause-places : goal.returns-in_ok-found-in_default-clause-places
returns-in_ok-found-in_default-clause-places c =
    let tag = c.in_ok-tag.tag.now in
    let other : (tag ≢ 108) × (tag ≢ 116) × (tag ≢ 77) = search rules in
    plain-without c.args.enc c.payload_bytes_are_read.ensures tag c.in_ok-tag.rest.now (heap_form c.in_ok-found-in_default.found) other (sym c.in_ok-found-in_default.ensures)
