use Rattle.std.proofs.Common.{◌≡◌, ℕ, List, Option, length, sym, ◌∙◌, subst}
use Rattle.wait_circles.specs.Inner.Leading.{CountsTokens, LeadWithin}
use Rattle.wait_circles.specs.Inner.Peeling.{IsPeeling}
use Rattle.wait_circles.proofs.PeelFacts.{peeling-first}
use Rattle.wait_circles.proofs.tokens.Tokens.of.Goals as goal

-- copies are what they are of
begun : (leads seen left : List (Option ℕ)) (counts incoming : List ℕ) → seen ≡ leads → left ≡ seen → incoming ≡ counts → LeadWithin leads (length leads) → CountsTokens seen counts (length seen)
    → IsPeeling leads left counts incoming
begun leads seen left counts incoming same copied again within are =
    subst (λ l. IsPeeling leads l counts incoming) (sym (copied ∙ same))
    (subst (IsPeeling leads leads counts) (sym again) (peeling-first leads counts within (subst (λ l. CountsTokens l counts (length l)) same are)))

pub returns-clause-peeling : goal.returns-clause-peeling
returns-clause-peeling c = record {
  within = c.requires.within;
  peeling = begun c.args.leads.items c.as_slice-2.result.now c.in_ok-left.left.items c.in_ok-counts.counts.items c.in_ok-incoming.incoming.items c.as_slice-2.ensures.value
      (c.in_ok-left.ensures ∙ c.as_slice.ensures.value ∙ sym c.as_slice-2.ensures.value) (c.in_ok-incoming.ensures ∙ c.as_slice-3.ensures.value) c.requires.within c.in_ok-counts.ensures;
}
