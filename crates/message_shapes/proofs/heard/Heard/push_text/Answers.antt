use Rattle.std.proofs.Common.{◌++◌, [], ◌∷◌, List, ◌∙◌, ap}
use Rattle.message_shapes.specs.Inner.Telling.{all_told, OfText, Told}
use Rattle.message_shapes.specs.declared.heard.Found.{Found}
use Rattle.message_shapes.specs.declared.heard.Subject.TheVariants as subject
use Rattle.message_shapes.proofs.HeardFacts.{told-text}
use Rattle.message_shapes.proofs.heard.Heard.push_text.Goals as goal

pub returns : goal.returns
returns c =
    let texts = c.self.inside.texts in
    let found = c.self.inside.found.items in
    let text = c.args.text.now in
    let after = c.number.new.self in
    let f : Found = record { at = c.args.at; subject = subject.Text c.in_ok-number.number } in
    let one : Told = record { at = c.args.at; source = OfText text } in
    let grown = c.in_ok-number.ensures.grown in
    ap (all_told after) (c.push_reserved.ensures.items ∙ ap (λ (l : List Found). l ++ f ∷ []) c.reserve.ensures.items)
    ∙ told-text texts grown.more after text found c.args.at c.in_ok-number.number c.self.invariant grown.are c.in_ok-number.ensures.number
    ∙ ap (λ (l : List Told). l ++ one ∷ []) c.self.view_is
