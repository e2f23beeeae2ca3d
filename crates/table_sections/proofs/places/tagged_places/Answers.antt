use Rattle.std.proofs.Common.{ℕ, ◌+◌, Bool, List, subst, sym, ◌∙◌, ap, arith}
use Rattle.std.specs.Str.{bytes_eq}
use Rattle.std.specs.Global.{Vec}
use Rattle.dump_sections.specs.Lookups.{has_tag}
use Rattle.dump_sections.specs.Sections.{Section}
use Rattle.table_sections.proofs.Listing.{AreListed, AreListed-passed, AreListed-found}
use Rattle.table_sections.proofs.places.tagged_places.Goals as goal
use Rattle.table_sections.proofs.places.tagged_places.Goals.{then-eq+in_ok-push, else-eq}

pub loop-i-preserved : goal.loop-i-preserved
loop-i-preserved c =
    let test : Section → Bool = λ s. has_tag c.args.tag.now s.text in
    let own = ap (λ (tag : List ℕ). bytes_eq tag c.args.tag.now) (sym c.section.ensures.tag) ∙ sym c.eq.ensures in
    let found = AreListed-found test c.args.index.now c.loop-i.places.items c.loop-i.i _ c.section.ensures.place c.loop-i.invariant in
    let passed = AreListed-passed test c.args.index.now c.loop-i.places.items c.loop-i.i _ c.section.ensures.place c.loop-i.invariant in
    elim c.if-eq.branch [
      | then-eq+in_ok-push w ↦
          found c.if-eq.places.items (own ∙ w.if-eq.true) (omega (arith, c.len-i-end.ensures.value, c.loop-i-test.true))
          (ap (λ (v : Vec ℕ). v.items) w.places-is ∙ w.in_ok-push.ensures.items)
      | else-eq w ↦ subst (λ (v : Vec ℕ). AreListed test c.args.index.now v.items (c.loop-i.i + 1)) (sym w.places-is) (passed (own ∙ w.if-eq.false))
    ]
