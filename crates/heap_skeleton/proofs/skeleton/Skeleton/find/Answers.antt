use Rattle.std.proofs.Common.{◌≡◌, ◌<◌, ◌==◌, length, sym, ◌∙◌, ap, subst}
use Rattle.std.specs.Prelude.{position, IfSome}
use Rattle.dump_io.specs.Laws.Lists.{position-within}
use Rattle.cell_records.specs.Order.{number_with}
use Rattle.heap_graph.specs.Held.{addresses_of}
use Rattle.heap_skeleton.specs.Skeletons.{SkeletonMap}
use Rattle.heap_skeleton.proofs.ShownFacts.{leads-addresses}
use Rattle.heap_skeleton.proofs.skeleton.Skeleton.find.Goals as goal

-- the first cell with the address
pub returns-clause-value : goal.returns-clause-value
returns-clause-value c =
    c.number_of.ensures ∙ ap (λ p. number_with (addresses_of p) c.args.address) c.deref-2.ensures.value
    ∙ ap (λ (v : SkeletonMap). position (λ a. a == c.args.address) v.addresses) c.self.view_is

pub returns-clause-within : goal.returns-clause-within
returns-clause-within c =
    let s = c.self.inside in
    let xs = addresses_of s.parts.items in
    let count : length xs ≡ length c.args.self.now.leads = sym (leads-addresses s.parts.items s.leads.items) ∙ ap (λ (v : SkeletonMap). length v.leads) c.self.view_is in
    subst (λ n. IfSome c.number_of.result (λ k. k < n)) count
    (subst (λ o. IfSome o (λ k. k < length xs)) (sym (c.number_of.ensures ∙ ap (λ p. number_with (addresses_of p) c.args.address) c.deref-2.ensures.value)) (position-within (λ a. a == c.args.address) xs))
