use Rattle.std.proofs.Common.{ap, sym, ◌∙◌, length, arith}
use Rattle.term_forms.proofs.Joins.{joined_list_length, joined_few}
use Rattle.term_forms.proofs.elems.Elems.left.Goals as goal

pub returns-clause-count : goal.returns-clause-count
returns-clause-count c =
    sym (joined_list_length c.self.inside.left c.self.inside.text.now c.self.invariant) ∙ ap length c.self.view_is

pub returns-clause-few : goal.returns-clause-few
returns-clause-few c =
    let few = joined_few c.self.inside.left c.self.inside.text.now c.self.invariant in
    omega (arith, few, c.self.told.1)
