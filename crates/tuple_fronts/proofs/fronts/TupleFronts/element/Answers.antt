use Rattle.std.proofs.Common.{[], sym, ◌∙◌, ap, length, arith}
use Rattle.std.specs.Prelude.{slice_get, slice_index_or}
use Rattle.term_forms.specs.Reading.{whole_of}
use Rattle.term_forms.specs.Seen.{element}
use Rattle.tuple_fronts.proofs.PartFacts.{length-shown, span-count, span-element}
use Rattle.tuple_fronts.proofs.fronts.TupleFronts.element.Goals as goal

pub span-from-requires-clause-front : goal.span-from-requires-clause-front
span-from-requires-clause-front c =
    let shown = length-shown c.self.inside.kept in
    let view = ap length c.self.view_is in
    omega (arith, c.requires.cell, shown, view)

pub returns : goal.returns
returns c =
    let kept = c.self.inside.kept in
    let i = c.args.i in
    let place = c.args.place in
    let span = c.span-from.result in
    let count = span-count kept i span c.span-from.ensures in
    let view = ap (λ l. length (slice_index_or l i [])) c.self.view_is in
    let read = ap whole_of (sym c.text.ensures.text) ∙ sym c.in-Some.ensures.exact in
    sym (ap (λ l. slice_get (slice_index_or l i []) place) c.self.view_is)
    ∙ span-element kept i span place (element c.in-Some.found) c.span-from.ensures (omega (arith, c.requires.place, count, view)) read
