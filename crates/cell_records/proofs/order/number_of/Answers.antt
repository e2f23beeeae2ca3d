use Rattle.std.proofs.Common.{◌≡◌, ℕ, ◌<◌, ◌^◌, List, length, map, sym, ◌∙◌, arith}
use Rattle.std.proofs.lemmas.List.{length-map}
use Rattle.cell_records.specs.Order.{address_in}
use Rattle.cell_records.proofs.OrderFacts.{by-address, past-the-end, found-there, other-there}
use Rattle.cell_records.proofs.order.number_of.Goals as goal

few-mapped : {X : Type 0} (f : X → ℕ) (cells : List X) → length cells < 2 ^ 32 → length (map f cells) < 2 ^ 32
few-mapped f cells few = omega (arith, few, length-map cells f)

pub count_below-at-requires : goal.count_below-at-requires
count_below-at-requires g c =
    let xs = map g.T.Located.address c.args.cells.now in by-address xs c.args.order.now (few-mapped g.T.Located.address c.args.cells.now c.requires.few) c.requires.order

pub returns-in_err-number : goal.returns-in_err-number
returns-in_err-number g c =
    let xs = map g.T.Located.address c.args.cells.now in
    c.from_residual.ensures
    ∙ sym (past-the-end xs c.args.order.now c.args.address c.count_below-at.result c.requires.order c.count_below-at.ensures.point
    (omega (arith, c.in_err-number.ensures.lookup)))

pub returns-then-address_of-address : goal.returns-then-address_of-address
returns-then-address_of-address g c =
    let xs = map g.T.Located.address c.args.cells.now in
    let found = c.in_ok-number.ensures.lookup in
    sym (found-there xs c.args.order.now c.args.address c.count_below-at.result c.in_ok-number.field-0.now c.requires.order c.count_below-at.ensures.point
    (omega (arith, found)) found.1 (sym c.address_of.ensures ∙ c.if-address_of-address.true))

pub returns-else-address_of-address : goal.returns-else-address_of-address
returns-else-address_of-address g c =
    let xs = map g.T.Located.address c.args.cells.now in
    let found = c.in_ok-number.ensures.lookup in
    let other : address_in xs c.in_ok-number.field-0.now ≡ c.args.address → ⊥ = λ same. c.if-address_of-address.false (c.address_of.ensures ∙ same) in
    sym (other-there xs c.args.order.now c.args.address c.count_below-at.result c.in_ok-number.field-0.now (few-mapped g.T.Located.address c.args.cells.now c.requires.few) c.requires.order
    c.count_below-at.ensures.point (omega (arith, found)) found.1 other)
