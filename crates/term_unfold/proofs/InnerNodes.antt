-- Inner nodes of hash maps, whose children stand in their place.
use Rattle.std.proofs.Common.{◌≡◌, ℕ, zero, suc, ◌+◌, Bool, false, List, [], ◌++◌, refl, sym, ◌∙◌, ap, arith, append-nil, append_assoc}
use Rattle.std.specs.Prelude.{codes}
use Rattle.term_unfold.specs.declared.node.NodeKind.TheVariants as kinds
use Rattle.term_unfold.specs.Laws.{joined}
use Rattle.term_unfold.specs.Text.{Shown, shown, Stand, Cut, At, led, ◌then◌, go_on, closed, comma_text, items_text, item_text, show}
use Rattle.term_unfold.specs.Trees.{Value, Branch, Trees, none, more}

-- what follows in two steps
followed-parts : (text : List ℕ) (stand : Stand) (all front back : Bool → ℕ → Shown Stand) → ((came : Bool) (m : ℕ) → all came m ≡ (front came m then go_on back))
    → (shown text stand then go_on all) ≡ ((shown text stand then go_on front) then go_on back)
followed-parts text Cut all front back each = ap (λ t. shown t Cut) (sym (append-nil (text ++ [])))
followed-parts text (At came m) all front back each =
    let last = go_on back (front came m).left in
    ap (λ (l : Shown Stand). shown (text ++ l.text) l.left) (each came m)
    ∙ ap (λ t. shown t last.left) (sym (append_assoc text (front came m).text last.text))

-- items, and others behind them
items-joined : (leaf : Value → List ℕ) (came : Bool) (children rest : Trees) (m : ℕ)
    → items_text leaf came (joined children rest) m ≡ (items_text leaf came children m then go_on (λ c. items_text leaf c rest))
items-joined leaf came none rest m = refl
items-joined leaf came (more child children) rest zero = ap (λ t. shown t Cut) (sym (append-nil (comma_text came ++ codes "...")))
items-joined leaf came (more child children) rest (suc m) =
    let first = item_text leaf came child m in
    followed-parts first.text first.left (λ c. items_text leaf c (joined children rest)) (λ c. items_text leaf c children) (λ c. items_text leaf c rest)
    (λ c k. items-joined leaf c children rest k)

pub inner-in-front : (leaf : Value → List ℕ) (children rest : Trees) (n : ℕ)
    → show leaf (Branch kinds.Hash (more (Branch kinds.Inner children) rest)) (n + 2) ≡ show leaf (Branch kinds.Hash (joined children rest)) (n + 1)
inner-in-front leaf children rest n =
    let two : n + 2 ≡ suc (suc n) = omega arith in
    let one : n + 1 ≡ suc n = omega arith in
    ap (show leaf (Branch kinds.Hash (more (Branch kinds.Inner children) rest))) two
    ∙ (ap (λ (l : Shown Stand). (led (codes "#{") (closed l)).text) (sym (items-joined leaf false children rest n))
    ∙ sym (ap (show leaf (Branch kinds.Hash (joined children rest))) one))
