use Rattle.std.proofs.Common.{ℕ, sym, ◌∙◌, ap, arith}
use Rattle.cell_records.proofs.OrderFacts.{none-there, number-there, other-address}
use Rattle.cell_records.proofs.search.number_there.Goals as goal

pub returns-then-at-len : goal.returns-then-at-len
returns-then-at-len c addresses are = sym (none-there addresses c.args.ranks.now c.args.address c.args.at are c.requires (omega arith))

pub returns-then-found-address : goal.returns-then-found-address
returns-then-found-address c addresses are =
    sym (number-there addresses c.args.ranks.now c.args.address c.args.at _ are c.requires (omega arith)
    (ap (λ (p : ℕ × ℕ). p.1) (sym c.get-found.ensures)) (ap (λ (p : ℕ × ℕ). p.0) (sym c.get-found.ensures) ∙ c.if-found-address.true))

pub returns-else-found-address : goal.returns-else-found-address
returns-else-found-address c addresses are =
    sym (other-address addresses c.args.ranks.now c.args.address c.args.at are c.requires (omega arith)
    (λ same. c.if-found-address.false (ap (λ (p : ℕ × ℕ). p.0) c.get-found.ensures ∙ same)))
