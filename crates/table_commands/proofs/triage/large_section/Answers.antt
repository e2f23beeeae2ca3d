use Rattle.std.proofs.Common.{Some}
use Rattle.std.specs.Option.{option_to_list}
use Rattle.dump_sections.specs.Bodies.{section_in}
use Rattle.dump_sections.specs.Index.{sections_in}
use Rattle.process_table.specs.Records.{record_sections}
use Rattle.table_sections.specs.Tables.{listed}
use Rattle.table_commands.proofs.TriageLoads.{large-five}
use Rattle.table_commands.proofs.triage.large_section.Goals as goal

pub returns : goal.returns
returns c =
    let index = c.args.at.now.index.now in
    let ss = sections_in index in
    let places = c.args.places.now in
    cc (
      c.or.ensures,
      c.or-2.ensures,
      c.or-3.ensures,
      c.or-4.ensures,
      c.large_body-first.ensures.fault,
      c.large_body-memory.ensures.fault,
      c.large-procs.ensures,
      c.large-tables.ensures,
      c.large-ports.ensures,
      large-five c.args.at.now.limits.now.section (option_to_list (section_in index (Some 0))) (option_to_list (section_in index places.memory)) (record_sections ss) (listed places.tables.kind ss) (listed places.ports.kind ss),
    )
