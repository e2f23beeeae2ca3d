use Rattle.std.proofs.Common.{arith, map}
use Rattle.std.proofs.lemmas.List.{length-map}
use Rattle.term_forms.specs.Seen.{element}
use Rattle.tuple_fronts.specs.CellTexts.{element_text}
use Rattle.tuple_fronts.proofs.CommaFacts.{comma-all, comma-next, text-there}
use Rattle.tuple_fronts.proofs.cell_texts.push_elements.Goals as goal

pub loop-place-preserved : goal.loop-place-preserved
loop-place-preserved c =
    let s = c.args.skeleton.now in
    let t = c.args.tuples.now in
    let pids = c.args.pids in
    let e = element c.element.result in
    comma-next (map (element_text pids s t) c.args.front.now) c.loop-place.place (element_text pids s t e) c.args.text.now.items c.loop-place.text.items c.push_comma.new.text.items c.push_element.new.text.items
    (text-there (element_text pids s t) c.args.front.now c.loop-place.place e c.element.ensures) c.loop-place.invariant c.in_ok-push_comma.ensures c.in_ok-push_element.ensures

pub returns : goal.returns
returns c =
    let s = c.args.skeleton.now in
    let t = c.args.tuples.now in
    let pids = c.args.pids in
    comma-all (map (element_text pids s t) c.args.front.now) c.loop-place.place c.args.text.now.items c.loop-place.text.items
    (omega (arith, length-map c.args.front.now (element_text pids s t), c.count-place-end.ensures, c.loop-place-test.false)) c.loop-place.invariant
