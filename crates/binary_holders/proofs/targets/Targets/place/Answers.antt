use Rattle.std.proofs.Common.{◌≡◌, ◌<◌, length, Some, sym, ◌∙◌, ap, subst, arith}
use Rattle.std.specs.Prelude.{slice_index}
use Rattle.binary_holders.specs.Inner.Places.{numbers_in, IsOnlyPlace}
use Rattle.binary_holders.proofs.TargetFacts.{hint-right}
use Rattle.binary_holders.proofs.CountFacts.{length-numbers}
use Rattle.binary_holders.proofs.targets.Targets.place.Goals as goal

-- a hint that is right names the only place
pub returns-in-Some : goal.returns-in-Some
returns-in-Some c =
    let binaries = c.self.inside.binaries.items in
    let place = c.in-Some.place in
    let inside : place < length (numbers_in binaries) = omega (arith, c.in-Some.ensures.within, ap length c.deref.ensures.value, length-numbers binaries) in
    let here : slice_index (numbers_in binaries) place ≡ c.args.number = ap (λ l. slice_index (numbers_in l) place) (sym c.deref.ensures.value) ∙ c.in-Some.ensures.number in
    subst (λ l. IsOnlyPlace (numbers_in l) c.args.number (Some place)) c.self.view_is (hint-right c.self.inside.places (numbers_in binaries) c.args.number place c.self.invariant.places inside here)
