use Rattle.std.proofs.Common.{◌≡◌, ◌+◌, ◌++◌, [], ◌∷◌, List, length, ◌∙◌, ap, ap₂, arith}
use Rattle.tuple_fronts.specs.Inner.Texts.{shown_texts}
use Rattle.tuple_fronts.specs.declared.texts.Span.{Span}
use Rattle.tuple_fronts.proofs.TextFacts.{texts-pushed}
use Rattle.tuple_fronts.proofs.texts.Texts.push.Goals as goal

pub returns : goal.returns
returns c =
    let pool = c.self.inside.pool.items in
    let spans = c.self.inside.spans.items in
    let from_is : c.in_ok-from.from ≡ length pool = omega arith in
    let upto_is : c.in_ok-upto.upto ≡ length pool + length c.args.text.now = omega arith in
    let span : Span = record { from = c.in_ok-from.from; upto = c.in_ok-upto.upto } in
    ap₂ shown_texts c.in_ok-extend_from_slice.ensures.items (c.push_reserved.ensures.items ∙ ap (λ (l : List Span). l ++ span ∷ []) c.reserve.ensures.items)
    ∙ texts-pushed pool c.args.text.now spans c.in_ok-from.from c.in_ok-upto.upto c.self.invariant from_is upto_is
    ∙ ap (λ l. l ++ c.args.text.now ∷ []) c.self.view_is
