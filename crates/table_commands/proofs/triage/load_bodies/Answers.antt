use Rattle.std.proofs.Common.{rules}
use Rattle.dump_sections.specs.Index.{sections_in}
use Rattle.table_commands.specs.Rows.{triage_sections}
use Rattle.dump_questions.specs.Laws.Bodies.{LoadsBodies-large, LoadsBodies-small}
use Rattle.table_commands.proofs.triage.load_bodies.Goals as goal

pub returns-in-Some-clause-loads : goal.returns-in-Some-clause-loads
returns-in-Some-clause-loads g c =
    let bodies = triage_sections (sections_in c.args.at.now.index.now) in
    let found = c.in-Ok.ensures in
    rw c.from.ensures (LoadsBodies-large g.D.Dumps.state bodies c.args.at.now.limits.now.section c.args.dumps.now _ (search rules) (rw (found.memory, found.kind, found.ports_kind) at c.in-Some.ensures))

pub returns-clause-loads : goal.returns-clause-loads
returns-clause-loads g c =
    let bodies = triage_sections (sections_in c.args.at.now.index.now) in
    let found = c.in-Ok.ensures in
    LoadsBodies-small g.D.Dumps.state bodies c.args.at.now.limits.now.section _ _ _ (rw (found.memory, found.kind, found.ports_kind) at c.in_default-large_section.ensures) (rw (found.memory, found.kind, found.ports_kind) at c.read_bodies.ensures.reads)
