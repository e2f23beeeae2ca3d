use Rattle.std.proofs.Common.{take, subst, arith}
use Rattle.std.proofs.lemmas.List.{take_all, length-take}
use Rattle.std.proofs.lemmas.List.FromFn.{length-enumerate_from}
use Rattle.dump_sections.specs.Index.{sections_in}
use Rattle.process_table.specs.Records.{placed_sections}
use Rattle.process_table.specs.Inner.Finding.{found_rising, AreFoundRising}
use Rattle.process_table.proofs.Hearing.{entries-few}
use Rattle.process_table.proofs.Rising.{AreFoundRising-none}
use Rattle.process_table.proofs.first_by_pid.find_rising.Goals as goal

pub loop-place-init : goal.loop-place-init
loop-place-init c = AreFoundRising-none c.new-places.result c.new-places.ensures.items

pub returns-clause-found : goal.returns-clause-found
returns-clause-found c =
    let sections = sections_in c.args.index.now in
    subst (AreFoundRising c.loop-place.places) (take_all c.loop-place.place (placed_sections sections) (omega (arith, length-enumerate_from 0 sections, c.len-place-end.ensures.sections))) c.loop-place.invariant

pub returns-clause-count : goal.returns-clause-count
returns-clause-count c =
    let sections = placed_sections (sections_in c.args.index.now) in
    omega (
      arith,
      entries-few (found_rising c.loop-place.places) (take c.loop-place.place sections) c.loop-place.invariant.found,
      length-take c.loop-place.place sections,
      c.len-place-end.ensures.value,
      c.len-place-end.ensures.bounded.sections,
    )
