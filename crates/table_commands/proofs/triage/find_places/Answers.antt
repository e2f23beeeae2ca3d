use Rattle.table_commands.proofs.triage.find_places.Goals as goal

pub returns : goal.returns
returns c =
    record {
      memory = c.first_tag-memory.ensures.section;
      within = c.first_tag-memory.ensures.within;
      procs = c.in_ok-procs.ensures;
      kind = c.in_ok-tables.ensures.kind;
      tables = c.in_ok-tables.ensures.listed;
      ports_kind = c.in_ok-ports.ensures.kind;
      ports = c.in_ok-ports.ensures.listed;
    }
