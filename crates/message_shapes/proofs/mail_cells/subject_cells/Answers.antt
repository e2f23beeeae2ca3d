use Rattle.std.proofs.Common.{◌<◌, All, take, sym, subst}
use Rattle.std.proofs.lemmas.List.Elements.{All-take}
use Rattle.message_shapes.specs.Inner.Telling.{IsCell}
use Rattle.message_shapes.proofs.OriginFacts.{cells-within}
use Rattle.message_shapes.proofs.mail_cells.subject_cells.Goals as goal

pub returns-clause-within : goal.returns-clause-within
returns-clause-within c = λ size are.
    let heard = c.args.heard.now in
    c.of.ensures.within size (subst (All (λ n. n < size)) (sym c.loop-i.invariant) (cells-within size (take c.loop-i.i heard) (All-take (IsCell size) c.loop-i.i heard are)))
