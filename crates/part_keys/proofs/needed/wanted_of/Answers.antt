use Rattle.std.proofs.Common.{sym, ◌∙◌, subst}
use Rattle.std.specs.Prelude.{Contains}
use Rattle.part_keys.specs.KeyPlaces.{AreKeysWithin}
use Rattle.part_keys.specs.Inner.KeyTexts.{all_key_cells, AreAmong}
use Rattle.part_keys.proofs.PartFacts.{places-within}
use Rattle.part_keys.proofs.needed.wanted_of.Goals as goal

pub returns-clause-all : goal.returns-clause-all
returns-clause-all c = λ n has. c.in_ok-cells.ensures.all n (subst (λ l. Contains (all_key_cells l) n) (sym (c.deref.ensures.value ∙ c.in_ok-places.ensures)) has)

pub returns-clause-within : goal.returns-clause-within
returns-clause-within c = λ size keys parts.
    c.in_ok-cells.ensures.within size (subst (AreKeysWithin size) (sym (c.deref.ensures.value ∙ c.in_ok-places.ensures)) (places-within size c.args.keys.now c.args.parts.now keys parts))

pub returns-clause-most : goal.returns-clause-most
returns-clause-most c = subst (AreAmong c.in_ok-most.most) (c.deref-2.ensures.value ∙ c.in_ok-places.ensures) c.in_ok-most.ensures
