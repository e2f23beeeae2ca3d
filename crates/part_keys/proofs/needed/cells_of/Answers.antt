use Rattle.std.proofs.Common.{◌≡◌, ◌<◌, ◌≤◌, All, length, ◌∙◌, sym, ap, subst, arith}
use Rattle.std.specs.Prelude.{Contains}
use Rattle.std.proofs.lemmas.List.{take_all}
use Rattle.part_keys.specs.Inner.KeyTexts.{all_key_cells}
use Rattle.part_keys.proofs.KeyFacts.{cells-within}
use Rattle.part_keys.proofs.needed.cells_of.Goals as goal

collected : (c : goal.After-of) → c.loop-key.cells.items ≡ all_key_cells c.args.keys.now
collected c =
    let all : length c.args.keys.now ≤ c.loop-key.key-index = omega (arith, c.loop-key-test.false) in
    c.loop-key.invariant ∙ ap all_key_cells (take_all c.loop-key.key-index c.args.keys.now all)

pub returns-clause-all : goal.returns-clause-all
returns-clause-all c = λ n has. c.of.ensures.all n (subst (λ l. Contains l n) (sym (collected c)) has)

pub returns-clause-within : goal.returns-clause-within
returns-clause-within c = λ size within. c.of.ensures.within size (subst (All (λ n. n < size)) (sym (collected c)) (cells-within size c.args.keys.now within))
