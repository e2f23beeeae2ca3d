use Rattle.std.proofs.Common.{arith}
use Rattle.term_forms.specs.Seen.{element}
use Rattle.tuple_fronts.specs.Shapes.{tags_with}
use Rattle.tuple_fronts.specs.CellTexts.{tag_at}
use Rattle.tuple_fronts.specs.Laws.CellTexts.{tags-count}
use Rattle.tuple_fronts.proofs.CommaFacts.{comma-all, comma-next, tag-there}
use Rattle.tuple_fronts.proofs.cell_texts.push_tags.Goals as goal

pub loop-place-preserved : goal.loop-place-preserved
loop-place-preserved c =
    let pids = c.args.pids in
    let front = c.args.front.now in
    let place = c.loop-place.place in
    let e = element c.element.result in
    comma-next (tags_with pids front) place (tag_at pids place e) c.args.text.now.items c.loop-place.text.items c.push_comma.new.text.items c.push_tag_at.new.text.items
    (tag-there pids front place e c.element.ensures) c.loop-place.invariant c.in_ok-push_comma.ensures c.in_ok-push_tag_at.ensures

pub returns : goal.returns
returns c =
    let pids = c.args.pids in
    let front = c.args.front.now in
    comma-all (tags_with pids front) c.loop-place.place c.args.text.now.items c.loop-place.text.items
    (omega (arith, tags-count pids front, c.count-place-end.ensures, c.loop-place-test.false)) c.loop-place.invariant
