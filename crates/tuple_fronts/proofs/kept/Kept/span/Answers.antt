use Rattle.std.proofs.Common.{◌∙◌, ap}
use Rattle.std.specs.Prelude.{slice_index}
use Rattle.tuple_fronts.specs.Inner.Kept.{start_at}
use Rattle.tuple_fronts.proofs.PartFacts.{span-is}
use Rattle.tuple_fronts.proofs.kept.Kept.span.Goals as goal

pub returns : goal.returns
returns c =
    let i = c.args.i in
    span-is c.args.self.now i c.span_of.result c.requires.sound c.requires.front
    (c.span_of.ensures.from ∙ ap (λ l. start_at l i) c.deref.ensures.value) (c.span_of.ensures.upto ∙ ap (λ l. slice_index l i) c.deref.ensures.value)
