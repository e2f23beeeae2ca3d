use Rattle.std.proofs.Common.{length, sym, ◌∙◌, ap, subst, arith}
use Rattle.process_table.specs.Processes.{ProcessTable, AreBoundedProcesses}
use Rattle.process_table.specs.Inner.Finding.{named_places}
use Rattle.process_table.proofs.Joining.{count_of, all_joined-bounded}
use Rattle.process_table.proofs.procs.Procs.len.Goals as goal

pub returns-clause-value : goal.returns-clause-value
returns-clause-value c =
    let count = count_of c.self.inside.places.items c.self.inside.fields.rows c.self.invariant.rows in
    c.len.ensures.value ∙ c.self.invariant.rows ∙ sym count ∙ ap (λ (t : ProcessTable). length t.processes) c.self.view_is

pub returns-clause-bounded : goal.returns-clause-bounded
returns-clause-bounded c =
    let count = count_of c.self.inside.places.items c.self.inside.fields.rows c.self.invariant.rows in
    subst AreBoundedProcesses c.self.view_is (record {
      count = omega (arith, count, c.self.invariant.count);
      fields = all_joined-bounded (named_places c.self.inside.places.items) c.self.inside.fields.rows c.len.ensures.bounded;
    })
