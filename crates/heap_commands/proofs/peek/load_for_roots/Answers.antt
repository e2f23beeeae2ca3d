use Rattle.std.proofs.Common.{◌∙◌, ap, arith, map, rules, None}
use Rattle.dump_io.specs.Laws.Reads.{ReadsAtMost-none}
use Rattle.term_forms.specs.Seen.{element}
use Rattle.term_text.specs.Reach.{root_elements}
use Rattle.heap_commands.specs.Inner.Loads.{GivesPart}
use Rattle.dump_questions.specs.declared.stop.Stop.TheVariants.{NoMemory}
use Rattle.heap_commands.proofs.PartLoads.{stopped, Gives-stopped}
use Rattle.heap_commands.proofs.peek.load_for_roots.Goals as goal

pub returns-in_err-terms-clause-gives : goal.returns-in_err-terms-clause-gives
returns-in_err-terms-clause-gives g c =
    let at = c.args.at.now in
    let state = g.D.Dumps.state c.args.dumps.now in
    let terms = root_elements c.args.roots.now.shown in
    stopped (GivesPart c.args.pid.now None terms c.args.nodes at.limits.now at.index.now state state)
    c.from_residual.result _ c.from_residual.ensures.1
    (Gives-stopped c.args.pid.now None terms c.args.nodes at.limits.now at.index.now state state NoMemory 0 (ReadsAtMost-none 0 (search rules)) (omega arith) tt)

pub returns-clause-gives : goal.returns-clause-gives
returns-clause-gives g c = rw (ap (λ es. map element es) c.deref.ensures.value ∙ c.in_ok-terms.ensures) at c.load_terms.ensures.gives
