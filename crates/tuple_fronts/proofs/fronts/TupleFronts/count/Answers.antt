use Rattle.std.proofs.Common.{[], sym, ◌∙◌, ap, length, arith}
use Rattle.std.specs.Prelude.{slice_index_or}
use Rattle.tuple_fronts.proofs.PartFacts.{length-shown, span-count}
use Rattle.tuple_fronts.proofs.fronts.TupleFronts.count.Goals as goal

pub span-from-requires-clause-front : goal.span-from-requires-clause-front
span-from-requires-clause-front c =
    let shown = length-shown c.self.inside.kept in
    let view = ap length c.self.view_is in
    omega (arith, c.requires, shown, view)

pub returns : goal.returns
returns c =
    sym (span-count c.self.inside.kept c.args.i c.span-from.result c.span-from.ensures) ∙ ap (λ l. length (slice_index_or l c.args.i [])) c.self.view_is
