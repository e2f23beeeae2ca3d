use Rattle.std.proofs.Common.{◌≡◌, Some, slice_get, sym, ◌∙◌, ap, subst, arith}
use Rattle.std.specs.Prelude.{position}
use Rattle.std.specs.Str.{bytes_eq}
use Rattle.std.proofs.lemmas.Option.{slice_get-get_or}
use Rattle.std.proofs.lemmas.Slice.Eq.{bytes_eq-Decides}
use Rattle.process_table.specs.Inner.Finding.{has_pid}
use Rattle.process_table.proofs.hints.Hints.find.Goals as goal

-- a hint that is right names the pid's own place
pub returns-then-eq-clause-number : goal.returns-then-eq-clause-number
returns-then-eq-clause-number c =
    let pid = c.args.pid.now in
    let places = c.args.places.now in
    let hint = c.in_ok-hint.field-0.now in
    let place = c.in_ok-place.place.now in
    let found = c.in_ok-place.ensures.lookup in
    let at : slice_get places hint ≡ Some place = slice_get-get_or places hint place (omega (arith, found)) ∙ ap Some (sym found.1) in
    let same : pid ≡ place.pid.items = (bytes_eq-Decides pid place.pid.items).0 (ap (bytes_eq pid) (sym c.as_slice.ensures.value) ∙ sym c.eq.ensures ∙ c.if-eq.true) in
    subst (λ t. position (has_pid t) places ≡ Some hint) (sym same) (c.requires hint place at)
