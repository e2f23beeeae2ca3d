use Rattle.std.proofs.Common.{◌<◌, ◌≤◌, length, sym, ◌∙◌, ap, subst, arith}
use Rattle.std.proofs.lemmas.List.{length-map}
use Rattle.dump_sections.specs.declared.headers.Head.{Head}
use Rattle.dump_sections.specs.Inner.Headers.{header_in}
use Rattle.dump_sections.proofs.Kept.{headers_in-at, AreWithin-at}
use Rattle.dump_sections.proofs.headers.Headers.header.Goals as goal

inside : (c : goal.After-as_slice) → c.args.i < length c.self.inside.heads.items
inside c = omega (arith, c.requires, ap length c.self.view_is, length-map c.self.inside.heads.items (header_in c.self.inside.pool.items))

pub part-requires-clause-ordered : goal.part-requires-clause-ordered
part-requires-clause-ordered c =
    let heads = c.self.inside.heads.items in
    subst (λ (h : Head). h.from ≤ h.upto) (sym c.index-head.ensures) (AreWithin-at _ heads c.args.i c.index-head.result.now c.self.invariant (inside c)).0

pub part-requires-clause-within : goal.part-requires-clause-within
part-requires-clause-within c =
    let heads = c.self.inside.heads.items in
    rw c.as_slice.ensures.value (subst (λ (h : Head). h.upto ≤ length c.self.inside.pool.items) (sym c.index-head.ensures)
    (AreWithin-at _ heads c.args.i c.index-head.result.now c.self.invariant (inside c)).1)

pub returns : goal.returns
returns c =
    let heads = c.self.inside.heads.items in
    let pool = c.self.inside.pool.items in
    let within : c.args.i < length heads =
    omega (arith, c.requires, ap length c.self.view_is, length-map heads (header_in pool)) in
    let text = c.part.ensures ∙ ap (Rattle.std.specs.List.between c.index-head.result.now.from c.index-head.result.now.upto) c.as_slice.ensures.value in
    cc (c.self.view_is, headers_in-at pool heads c.args.i c.index-head.result.now within c.index-head.ensures)
