use Rattle.std.proofs.Common.{[], ◌∷◌, ◌++◌, map, ◌∙◌, ap, arith}
use Rattle.std.proofs.lemmas.List.{length-map}
use Rattle.cell_records.proofs.OrderFacts.{pairs-more, pairs-all}
use Rattle.cell_records.proofs.order.push_pairs.Goals as goal

pub loop-i-preserved : goal.loop-i-preserved
loop-i-preserved g c = pairs-more (map g.T.Located.address c.args.cells.now) c.loop-i.pairs c.push.new.self c.loop-i.i c.loop-i.invariant.0 c.loop-i.invariant.1
    (c.in_ok-push.ensures ∙ ap (λ a. c.loop-i.pairs ++ (a, c.loop-i.i) ∷ []) c.address_of.ensures)

pub returns : goal.returns
returns g c = pairs-all (map g.T.Located.address c.args.cells.now) c.loop-i.pairs c.loop-i.i c.loop-i.invariant.0 c.loop-i.invariant.1 (omega (arith, length-map c.args.cells.now g.T.Located.address))
