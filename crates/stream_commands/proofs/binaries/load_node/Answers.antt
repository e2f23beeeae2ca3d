use Rattle.std.proofs.Common.{rules}
use Rattle.dump_sections.specs.Index.{sections_in}
use Rattle.stream_commands.specs.Inner.Loads.{node_sections}
use Rattle.dump_questions.specs.Laws.Bodies.{LoadsBodies-large, LoadsBodies-memory, LoadsBodies-small}
use Rattle.stream_commands.proofs.binaries.load_node.Goals as goal

pub returns-in_default-clause-loads : goal.returns-in_default-clause-loads
returns-in_default-clause-loads g c =
    let bodies = node_sections (sections_in c.args.at.now.index.now) in
    LoadsBodies-memory g.D.Dumps.state bodies c.args.at.now.limits.now.section c.args.dumps.now (search rules)

pub returns-in-Some-clause-loads : goal.returns-in-Some-clause-loads
returns-in-Some-clause-loads g c =
    let bodies = node_sections (sections_in c.args.at.now.index.now) in
    rw c.from.ensures (LoadsBodies-large g.D.Dumps.state bodies c.args.at.now.limits.now.section c.args.dumps.now _ (search rules) c.in-Some.ensures)

pub returns-clause-loads : goal.returns-clause-loads
returns-clause-loads g c =
    let bodies = node_sections (sections_in c.args.at.now.index.now) in
    LoadsBodies-small g.D.Dumps.state bodies c.args.at.now.limits.now.section _ _ _ c.in_default-large_section.ensures c.read_node.ensures.reads
