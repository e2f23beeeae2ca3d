use Rattle.std.proofs.Common.{Option, IfSome, subst}
use Rattle.std.specs.Global.{Vec}
use Rattle.dump_sections.specs.Index.{sections_in}
use Rattle.process_table.specs.declared.pids.PidPlace.{PidPlace}
use Rattle.process_table.specs.Records.{placed_sections}
use Rattle.process_table.specs.Inner.Finding.{AreFoundRising}
use Rattle.process_table.proofs.Rising.{AreOrdered-rising}
use Rattle.process_table.proofs.first_by_pid.find.Goals as goal

pub returns-in-Some-clause-ordered : goal.returns-in-Some-clause-ordered
returns-in-Some-clause-ordered c =
    let sections = placed_sections (sections_in c.args.index.now) in
    let found : AreFoundRising c.in-Some.places sections =
    subst (λ (o : Option (Vec PidPlace)). IfSome o (λ places. AreFoundRising places sections)) c.in-Some.is c.in_ok-places.ensures.found in
    AreOrdered-rising c.in-Some.places.items found.rising
