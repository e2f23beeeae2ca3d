use Rattle.std.proofs.Common.{◌≡◌, ◌-◌, ◌++◌, sym, subst, arith}
use Rattle.std.specs.Result.{OnOk}
use Rattle.cell_parts.specs.Inner.Walking.{HasAdded}
use Rattle.cell_parts.proofs.Walking.{added-done}
use Rattle.cell_parts.proofs.elements.add_lead.Goals as goal

pub returns-clause-added : goal.returns-clause-added
returns-clause-added c = λ before leads same has.
    let at : c.total.result - c.args.begun ≡ c.args.parts.now.elements - before.elements = omega (arith, c.total.ensures, same) in
    subst (λ more. OnOk c.add.result (HasAdded before (leads ++ more) c.add.new.self)) (sym c.if-not-is_weighed.ensures)
    (added-done c.add.result before c.args.parts.now c.add.new.self leads c.args.lead (c.total.result - c.args.begun) has at c.add.ensures.total c.add.ensures.parts)
