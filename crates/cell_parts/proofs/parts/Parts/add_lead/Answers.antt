use Rattle.std.proofs.Common.{◌≡◌, List, subst}
use Rattle.std.specs.Result.{OnOk}
use Rattle.cell_parts.specs.Parts.{CellPart}
use Rattle.cell_parts.proofs.Joining.{joined-new, joined-there}
use Rattle.cell_parts.proofs.parts.Parts.add_lead.Goals as goal

pub returns-in-Some-clause-parts : goal.returns-in-Some-clause-parts
returns-in-Some-clause-parts c =
    subst (λ (parts : List CellPart). OnOk c.count_one.result (c.count_one.new.self ≡ record c.args.self.now { parts = parts }))
    (joined-there c.args.cell c.args.at c.args.label.now c.in-Some.part c.args.self.now.parts c.in-Some.ensures.found)
    (c.count_one.ensures.parts c.args.cell c.in-Some.ensures.found)

pub returns-in-None-clause-parts : goal.returns-in-None-clause-parts
returns-in-None-clause-parts c =
    subst (λ (parts : List CellPart). OnOk c.push_part.result (c.push_part.new.self ≡ record c.args.self.now { parts = parts }))
    (joined-new c.args.cell c.args.at c.args.label.now c.args.self.now.parts c.in-None.ensures.none)
    c.push_part.ensures.parts
