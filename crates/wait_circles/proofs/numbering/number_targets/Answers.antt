use Rattle.std.proofs.Common.{arith, ◌≡◌, ◌+◌, ◌-◌, ◌++◌, ℕ, List, Option, None, length, ◌∙◌, ap₂, take}
use Rattle.std.specs.Prelude.{replicate}
use Rattle.std.proofs.lemmas.List.{take_all}
use Rattle.wait_circles.specs.Waiters.{Waiter}
use Rattle.wait_circles.specs.Inner.Numbering.{AreNumbered, IsNumbered}
use Rattle.wait_circles.proofs.NumberFacts.{IsNumbered-all, within-numbered}
use Rattle.wait_circles.proofs.numbering.number_targets.Goals as goal

numbered : (ws : List Waiter) (leads all : List (Option ℕ)) (len count numbers : ℕ) → (others : List (List ℕ)) × (count ≡ length others) × AreNumbered ws others leads (length ws)
    → len ≡ length leads → numbers ≡ len + count → all ≡ take numbers leads ++ replicate (numbers - len) None → (others : List (List ℕ)) × IsNumbered ws others all
numbered ws leads all len count numbers found size sum is =
    let rest : numbers - len ≡ count = omega (arith, sum) in
    let none : Option ℕ = None in
    (found.0, IsNumbered-all ws found.0 leads all count found.2 (is ∙ ap₂ (λ a b. a ++ replicate b none) (take_all numbers leads (omega (arith, sum, size))) rest) found.1)

pub returns-clause-numbered : goal.returns-clause-numbered
returns-clause-numbered g c =
    let leads = c.in_ok-leads.leads in
    numbered (g.W.Waiting.waiters c.args.waiting.now) leads.items c.resize.new.self.items leads.len c.in_ok-leads.others c.in-Some.numbers c.in_ok-leads.ensures leads.ok.0
    (omega (arith, c.in-Some.ensures.1, c.len-2.ensures)) c.in_ok-resize.ensures.items

pub returns-clause-within : goal.returns-clause-within
returns-clause-within g c =
    let leads = c.in_ok-leads.leads in
    let n = numbered (g.W.Waiting.waiters c.args.waiting.now) leads.items c.resize.new.self.items leads.len c.in_ok-leads.others c.in-Some.numbers c.in_ok-leads.ensures leads.ok.0
    (omega (arith, c.in-Some.ensures.1, c.len-2.ensures)) c.in_ok-resize.ensures.items in
    within-numbered (g.W.Waiting.waiters c.args.waiting.now) n.0 c.resize.new.self.items n.1
