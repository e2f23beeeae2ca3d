use Rattle.std.proofs.Common.{Some, sym, ◌∙◌, ap, subst, arith}
use Rattle.std.specs.Ordering.{is_eq}
use Rattle.std.specs.List.Sorted.{IsSortedByKey}
use Rattle.std.proofs.lemmas.Option.{slice_get-get_or}
use Rattle.dump_sections.proofs.PairFacts.{found, other, past}
use Rattle.dump_sections.proofs.places.FirstPlaces.get.Goals as goal

pub count_below-requires : goal.count_below-requires
count_below-requires g c = subst (IsSortedByKey (λ p. p.0) g.K.Ord.cmp) (sym c.as_slice-pairs.ensures.value) c.self.invariant

pub returns-in_err-found : goal.returns-in_err-found
returns-in_err-found g c =
    let pairs = c.as_slice-pairs.result.now in
    let sorted = subst (IsSortedByKey (λ p. p.0) g.K.Ord.cmp) (sym c.as_slice-pairs.ensures.value) c.self.invariant in
    c.from_residual.ensures
    ∙ rw (sym c.self.view_is, sym c.as_slice-pairs.ensures.value)
    (sym (past g.K.Ord.cmp g.met.K.Ord.total c.args.key pairs sorted c.count_below.result c.count_below.ensures (omega (arith, c.in_err-found.ensures.lookup))))

pub returns-then-is_eq : goal.returns-then-is_eq
returns-then-is_eq g c =
    let pairs = c.as_slice-pairs.result.now in
    let pair = c.in_ok-found.field-0.now in
    let sorted = subst (IsSortedByKey (λ p. p.0) g.K.Ord.cmp) (sym c.as_slice-pairs.ensures.value) c.self.invariant in
    rw (sym c.self.view_is, sym c.as_slice-pairs.ensures.value)
    (sym (found g.K.Ord.cmp g.met.K.Ord.total c.args.key pairs sorted c.count_below.result c.count_below.ensures pair
    (slice_get-get_or pairs c.count_below.result pair (omega (arith, c.in_ok-found.ensures.lookup)) ∙ ap Some (sym c.in_ok-found.ensures.lookup.1))
    (sym (ap is_eq c.cmp.ensures) ∙ sym c.is_eq.ensures ∙ c.if-is_eq.true)))

pub returns-else-is_eq : goal.returns-else-is_eq
returns-else-is_eq g c =
    let pairs = c.as_slice-pairs.result.now in
    let pair = c.in_ok-found.field-0.now in
    let sorted = subst (IsSortedByKey (λ p. p.0) g.K.Ord.cmp) (sym c.as_slice-pairs.ensures.value) c.self.invariant in
    rw (sym c.self.view_is, sym c.as_slice-pairs.ensures.value)
    (sym (other g.K.Ord.cmp g.met.K.Ord.total c.args.key pairs sorted c.count_below.result c.count_below.ensures pair
    (slice_get-get_or pairs c.count_below.result pair (omega (arith, c.in_ok-found.ensures.lookup)) ∙ ap Some (sym c.in_ok-found.ensures.lookup.1))
    (sym (ap is_eq c.cmp.ensures) ∙ sym c.is_eq.ensures ∙ c.if-is_eq.false)))
