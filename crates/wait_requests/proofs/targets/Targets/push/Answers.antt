use Rattle.std.proofs.Common.{List, [], ◌∷◌, ◌++◌, Option, Some, sym, ◌∙◌, ap, ap₂}
use Rattle.std.specs.Option.{option_copied}
use Rattle.wait_requests.specs.Inner.Pools.{shown_targets}
use Rattle.wait_requests.specs.declared.targets.Span.{Span}
use Rattle.wait_requests.proofs.PoolFacts.{target-pushed}
use Rattle.wait_requests.proofs.targets.Targets.push.Goals as goal

pub returns-in_ok-span-in-Some : goal.returns-in_ok-span-in-Some
returns-in_ok-span-in-Some c =
    let texts = c.self.inside.texts.items in
    let spans = c.self.inside.spans.items in
    let span = c.in_ok-span-in-Some.span in
    let one = c.in_ok-span-in-Some.ensures in
    ap₂ shown_targets one.grown (c.push_reserved.ensures.items ∙ ap (λ (l : List (Option Span)). l ++ Some span ∷ []) c.reserve.ensures.items)
    ∙ target-pushed texts c.in-Some.text.now spans span c.self.invariant one.span
    ∙ ap₂ (λ l o. l ++ o ∷ []) c.self.view_is (ap option_copied (sym c.in-Some.is))
