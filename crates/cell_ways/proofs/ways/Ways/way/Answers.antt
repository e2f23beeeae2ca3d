use Rattle.std.proofs.Common.{◌≡◌, ◌<◌, All, arith, length, None, Some, ap, sym, subst, ◌∙◌}
use Rattle.cell_ways.specs.Depths.{way_by}
use Rattle.cell_ways.specs.Ways.{at_cell, AreWays, WayMap}
use Rattle.cell_ways.proofs.Noting.{way-kept, way-within}
use Rattle.cell_ways.proofs.ways.Ways.way.Goals as goal

pub returns-in_default-clause-way : goal.returns-in_default-clause-way
returns-in_default-clause-way c = λ graph begun are.
    let ways : WayMap = record { depths = c.self.inside.depths.items; befores = c.self.inside.befores.items } in
    let found : None ≡ at_cell ways.depths c.args.cell = sym c.in_default.is ∙ c.number_at.ensures ∙ ap (λ depths. at_cell depths c.args.cell) c.deref.ensures.value in
    c.new.ensures.items
    ∙ way-kept graph begun ways (subst (AreWays graph begun) (sym c.self.view_is) are) c.args.cell None
    (subst (λ (w : WayMap). c.args.cell < length w.depths) (sym c.self.view_is) c.requires) found

pub returns-clause-way : goal.returns-clause-way
returns-clause-way c = λ graph begun are.
    let ways : WayMap = record { depths = c.self.inside.depths.items; befores = c.self.inside.befores.items } in
    let depth = c.in-Some.depth in
    let found : Some depth ≡ at_cell ways.depths c.args.cell = sym c.in-Some.is ∙ c.number_at.ensures ∙ ap (λ depths. at_cell depths c.args.cell) c.deref.ensures.value in
    c.reverse.ensures.items
    ∙ c.in_ok-way.ensures
    ∙ ap (λ befores. way_by (at_cell befores) depth c.args.cell) c.deref-2.ensures.value
    ∙ way-kept graph begun ways (subst (AreWays graph begun) (sym c.self.view_is) are) c.args.cell (Some depth)
    (subst (λ (w : WayMap). c.args.cell < length w.depths) (sym c.self.view_is) c.requires) found

pub returns-clause-within : goal.returns-clause-within
returns-clause-within c = λ graph begun are.
    let inside : c.args.cell < length graph = omega (arith, are.size, c.requires) in
    subst (All (λ n. n < length graph)) (sym (returns-clause-way c graph begun are)) (way-within graph begun c.args.cell inside)
