use Rattle.std.proofs.Common.{◌≡◌, ℕ, List, [], ◌∷◌, ◌++◌, length, map, Some, None, sym, ◌∙◌, ap, subst, arith}
use Rattle.std.proofs.lemmas.List.{length-map, map-append}
use Rattle.std.proofs.lemmas.Map.Text.{btree_map_updates_str}
use denote.Ref.{Bor}
use Rattle.text_groups.specs.Numbers.{number_in}
use Rattle.text_groups.specs.Inner.Numbers.{IsNumberTree}
use Rattle.text_groups.proofs.NumberFacts.{number-new, tree-more}
use Rattle.text_groups.proofs.numbers.TextNumbers.number.Goals as goal

abbrev shown : List (Bor (List ℕ)) → List (List ℕ)
shown texts = map (λ text. text.now) texts

-- the texts with one more
grown : (c : goal.After-push_reserved) → shown c.push_reserved.new.self.items ≡ shown c.self.inside.texts.items ++ c.args.text.now ∷ []
grown c = ap shown (c.push_reserved.ensures.items ∙ ap (λ (l : List (Bor (List ℕ))). l ++ c.args.text ∷ []) c.reserve.ensures.items) ∙ map-append (λ (text : Bor (List ℕ)). text.now) c.self.inside.texts.items (c.args.text ∷ [])

-- it isn't among them
new : (c : goal.After-push_reserved) → number_in (shown c.self.inside.texts.items) c.args.text.now ≡ None
new c = sym (c.self.invariant.each c.args.text.now) ∙ sym c.in_default.ensures.value

next : (c : goal.After-push_reserved) → c.in-Ok.number ≡ length (shown c.self.inside.texts.items)
next c = omega (arith, c.in-Ok.ensures, c.len.ensures, length-map c.self.inside.texts.items (λ (text : Bor (List ℕ)). text.now))

pub invariant_of-self-2 : goal.invariant_of-self-2
invariant_of-self-2 c =
    subst (IsNumberTree c.insert.new.self) (sym (grown c))
    (tree-more c.self.inside.numbers c.insert.new.self (shown c.self.inside.texts.items) c.args.text.now c.in-Ok.number c.self.invariant (new c) (next c)
    (btree_map_updates_str c.args.text.now c.self.inside.numbers c.insert.new.self _ c.in_ok-insert.ensures.updates))

pub returns-clause-number : goal.returns-clause-number
returns-clause-number c =
    ap (λ known. number_in known c.args.text.now) (grown c) ∙ number-new (shown c.self.inside.texts.items) c.args.text.now (new c) ∙ ap Some (sym (next c))
