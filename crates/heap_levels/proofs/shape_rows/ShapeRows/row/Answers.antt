use Rattle.std.proofs.Common.{length, sym, ◌∙◌, ap, arith}
use Rattle.std.specs.Prelude.{slice_get}
use Rattle.heap_levels.proofs.ShapeFacts.{shown-count, shown-there}
use Rattle.heap_levels.proofs.shape_rows.ShapeRows.row.Goals as goal

pub group_at-group-requires : goal.group_at-group-requires
group_at-group-requires c =
    let s = c.self.inside in
    omega (arith, c.requires, shown-count s.groups.items s.texts c.self.invariant, ap length c.self.view_is, ap length c.deref.ensures.value)

pub get-requires : goal.get-requires
get-requires c =
    let s = c.self.inside in
    omega (arith, c.requires, shown-count s.groups.items s.texts c.self.invariant, ap length c.self.view_is, c.self.invariant)

pub returns : goal.returns
returns c =
    let s = c.self.inside in
    sym (ap (λ l. slice_get l c.args.i) c.self.view_is)
    ∙ shown-there s.groups.items s.texts c.args.i c.group_at-group.result c.get.result.now (ap (λ l. slice_get l c.args.i) (sym c.deref.ensures.value) ∙ c.group_at-group.ensures) c.get.ensures
