use Rattle.std.proofs.Common.{length, sym, ◌∙◌, ap, arith}
use Rattle.std.specs.Prelude.{slice_get}
use Rattle.heap_levels.proofs.RowFacts.{shown-count, shown-there}
use Rattle.heap_levels.proofs.level_rows.LevelRows.row.Goals as goal

pub level_row-found-requires : goal.level_row-found-requires
level_row-found-requires c =
    let s = c.self.inside in
    omega (arith, c.requires, shown-count s.rows.items s.labels c.self.invariant, ap length c.self.view_is, ap length c.deref.ensures.value)

pub get-requires : goal.get-requires
get-requires c =
    let s = c.self.inside in
    omega (arith, c.requires, shown-count s.rows.items s.labels c.self.invariant, ap length c.self.view_is, c.self.invariant)

pub returns : goal.returns
returns c =
    let s = c.self.inside in
    sym (ap (λ l. slice_get l c.args.i) c.self.view_is)
    ∙ shown-there s.rows.items s.labels c.args.i c.level_row-found.result c.get.result.now (ap (λ l. slice_get l c.args.i) (sym c.deref.ensures.value) ∙ c.level_row-found.ensures) c.get.ensures
