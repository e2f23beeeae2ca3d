use Rattle.std.proofs.Common.{◌≡◌, ℕ, ◌<◌, List, [], Some, length, sym, ◌∙◌, ap, subst, arith}
use Rattle.std.specs.Prelude.{IfOk, slice_index_or}
use Rattle.std.specs.Option.{option_map_or}
use Rattle.text_groups.specs.Numbers.{number_in}
use Rattle.message_shapes.specs.Inner.Shaped.{shape_with}
use Rattle.message_shapes.proofs.NumberedFacts.{have-at, shape-at}
use Rattle.message_shapes.proofs.shape_numbers.number_message.Goals as goal

pub returns-in-Text-clause-number : goal.returns-in-Text-clause-number
returns-in-Text-clause-number c =
    let cells = c.args.cells.now in
    let shapes = c.args.shapes.now in
    subst (λ (t : List ℕ). IfOk c.number.result (λ number. number_in c.number.new.self t ≡ Some number))
    (sym (shape-at cells shapes c.args.heard.now c.args.i c.requires.place ∙ ap (shape_with cells shapes) (sym c.in-Text.ensures)))
    c.number.ensures.number

pub returns-in-Some-clause-number : goal.returns-in-Some-clause-number
returns-in-Some-clause-number c =
    let cells = c.args.cells.now in
    let shapes = c.args.shapes.now in
    let inside : c.in-Some.place < length shapes = omega (arith, c.in-Some.ensures.within, c.requires.shapes) in
    ap (number_in c.args.known.now)
    (shape-at cells shapes c.args.heard.now c.args.i c.requires.place
    ∙ ap (shape_with cells shapes) (sym c.in-Cell.ensures)
    ∙ ap (λ o. option_map_or (λ k. slice_index_or shapes k []) o []) (sym c.in-Some.ensures.value))
    ∙ have-at c.args.known.now shapes c.args.of_cells.now c.in-Some.place c.requires.cells inside

pub returns-in-None-clause-number : goal.returns-in-None-clause-number
returns-in-None-clause-number c =
    let cells = c.args.cells.now in
    let shapes = c.args.shapes.now in
    subst (λ (t : List ℕ). IfOk c.number-in-None.result (λ number. number_in c.number-in-None.new.self t ≡ Some number))
    (sym (shape-at cells shapes c.args.heard.now c.args.i c.requires.place
    ∙ ap (shape_with cells shapes) (sym c.in-Cell.ensures)
    ∙ ap (λ o. option_map_or (λ k. slice_index_or shapes k []) o []) (sym c.in-None.ensures.value)))
    c.number-in-None.ensures.number
