use Rattle.std.proofs.Common.{Ok, Err, ◌∙◌, sym, ap, subst}
use Rattle.std.specs.List.Sorted.{IsStrictlyIncreasing}
use Rattle.std.proofs.lemmas.List.Sorted.{searched}
use Rattle.tuple_fronts.specs.CellSets.{place_of}
use Rattle.tuple_fronts.specs.Laws.CellSets.{found-place}
use Rattle.tuple_fronts.proofs.SetFacts.{not-falling, other-place}
use Rattle.tuple_fronts.proofs.cell_set.CellSet.place.Goals as goal

pub returns-in-Ok-clause-value : goal.returns-in-Ok-clause-value
returns-in-Ok-clause-value c =
    let xs = c.as_slice.result.now in
    let rising : IsStrictlyIncreasing xs = subst IsStrictlyIncreasing (sym c.as_slice.ensures.value) c.self.invariant in
    let found = searched xs c.args.cell (Ok c.in-Ok.place) c.in-Ok.ensures.position (not-falling xs rising) in
    found-place xs c.args.cell c.in-Ok.place rising found.0 found.1
    ∙ ap (λ l. place_of l c.args.cell) (c.as_slice.ensures.value ∙ c.self.view_is)

pub returns-in-Err-clause-value : goal.returns-in-Err-clause-value
returns-in-Err-clause-value c =
    let xs = c.as_slice.result.now in
    let rising : IsStrictlyIncreasing xs = subst IsStrictlyIncreasing (sym c.as_slice.ensures.value) c.self.invariant in
    let found = searched xs c.args.cell (Err c.in-Err.field-0) c.in-Err.ensures.position (not-falling xs rising) in
    other-place xs c.args.cell c.in-Err.field-0 rising found.1 found.2
    ∙ ap (λ l. place_of l c.args.cell) (c.as_slice.ensures.value ∙ c.self.view_is)
