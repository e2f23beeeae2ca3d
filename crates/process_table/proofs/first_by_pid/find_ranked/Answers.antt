use Rattle.std.proofs.Common.{take, subst, arith}
use Rattle.std.proofs.lemmas.List.{take_all, length-take}
use Rattle.std.proofs.lemmas.List.FromFn.{length-enumerate_from}
use Rattle.dump_sections.specs.Index.{sections_in}
use Rattle.process_table.specs.Records.{placed_sections}
use Rattle.process_table.specs.Inner.Finding.{AreFound}
use Rattle.process_table.proofs.Hearing.{entries-few}
use Rattle.process_table.proofs.first_by_pid.find_ranked.Goals as goal

pub returns-clause-found : goal.returns-clause-found
returns-clause-found c =
    let sections = sections_in c.args.index.now in
    subst (AreFound c.loop-i.found) (take_all c.loop-i.i (placed_sections sections) (omega (arith, length-enumerate_from 0 sections, c.len-i-end.ensures.sections))) c.loop-i.invariant.found

pub returns-clause-count : goal.returns-clause-count
returns-clause-count c =
    let sections = placed_sections (sections_in c.args.index.now) in
    omega (arith, entries-few c.loop-i.found (take c.loop-i.i sections) c.loop-i.invariant.found, length-take c.loop-i.i sections, c.len-i-end.ensures.value, c.len-i-end.ensures.bounded.sections)
