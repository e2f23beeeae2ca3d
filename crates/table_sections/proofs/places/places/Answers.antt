use Rattle.std.proofs.Common.{ℕ, ◌+◌, List, subst, sym, ◌∙◌, ap, arith}
use Rattle.std.specs.List.{list_any}
use Rattle.std.specs.Str.{bytes_eq}
use Rattle.table_sections.specs.Kinds.{lists, tags_of}
use Rattle.std.specs.Global.{Vec}
use Rattle.table_sections.proofs.Listing.{AreListed, AreListed-passed, AreListed-found}
use Rattle.table_sections.proofs.places.places.Goals as goal
use Rattle.table_sections.proofs.places.places.Goals.{then-lists+in_ok-push, else-lists}

pub loop-i-preserved : goal.loop-i-preserved
loop-i-preserved c =
    let own = ap (λ (tag : List ℕ). list_any (bytes_eq tag) (tags_of c.args.kind)) (sym c.section.ensures.tag) ∙ sym c.lists.ensures in
    let listed = AreListed-found (lists c.args.kind) c.args.index.now c.loop-i.places.items c.loop-i.i _ c.section.ensures.place c.loop-i.invariant in
    let passed = AreListed-passed (lists c.args.kind) c.args.index.now c.loop-i.places.items c.loop-i.i _ c.section.ensures.place c.loop-i.invariant in
    elim c.if-lists.branch [
      | then-lists+in_ok-push w ↦
          listed c.if-lists.places.items (own ∙ w.if-lists.true) (omega (arith, c.len-i-end.ensures.value, c.loop-i-test.true))
          (ap (λ (v : Vec ℕ). v.items) w.places-is ∙ w.in_ok-push.ensures.items)
      | else-lists w ↦
          subst (λ (v : Vec ℕ). AreListed (lists c.args.kind) c.args.index.now v.items (c.loop-i.i + 1)) (sym w.places-is) (passed (own ∙ w.if-lists.false))
    ]
