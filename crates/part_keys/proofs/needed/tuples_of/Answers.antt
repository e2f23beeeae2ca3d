use Rattle.std.proofs.Common.{◌≡◌, ◌<◌, ◌++◌, All, length, ◌∙◌, sym, ap, subst}
use Rattle.std.specs.Prelude.{Contains}
use Rattle.std.proofs.lemmas.List.Elements.{All-append}
use Rattle.part_keys.specs.Inner.KeyTexts.{all_key_tuples}
use Rattle.part_keys.specs.Inner.PartTexts.{all_part_tuples, all_tuples}
use Rattle.part_keys.proofs.KeyFacts.{tuples-within}
use Rattle.part_keys.proofs.PartFacts.{parts-within}
use Rattle.part_keys.proofs.needed.tuples_of.Goals as goal

collected : (c : goal.After-of) → c.add_parts.new.cells.items ≡ all_tuples c.args.skeleton.now c.args.keys.now c.args.parts.now
collected c =
    let s = c.args.skeleton.now in
    let keys = all_key_tuples s c.args.keys.now in
    let parts = all_part_tuples s c.args.parts.now in
    c.in_ok-add_parts.ensures ∙ ap (λ l. l ++ parts) (c.in_ok-add_tuples.ensures ∙ ap (λ l. l ++ keys) c.new-cells.ensures.items)

pub returns-clause-all : goal.returns-clause-all
returns-clause-all c = λ n has. c.of.ensures.all n (subst (λ l. Contains l n) (sym (collected c)) has)

pub returns-clause-within : goal.returns-clause-within
returns-clause-within c =
    let s = c.args.skeleton.now in
    let size = length s.leads in
    c.of.ensures.within size (subst (All (λ n. n < size)) (sym (collected c))
    (All-append (λ n. n < size) (all_key_tuples s c.args.keys.now) (all_part_tuples s c.args.parts.now)
    (tuples-within s c.args.keys.now c.requires.within) (parts-within s c.args.parts.now c.requires.within c.requires.parts)))
