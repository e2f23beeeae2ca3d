-- A process as the table lends it.
use Rattle.section_rows.specs.Shown.{shown_cell}
use Rattle.process_table.specs.declared.procs.Proc.{Proc}
use Rattle.process_table.specs.Processes.{Process}

-- the value of a record whose texts are borrowed
abbrev pub shown_process : Proc → Process
shown_process p = record {
  section = p.section;
  pid = p.pid.now;
  state = shown_cell p.state;
  name = shown_cell p.name;
  queue = shown_cell p.queue;
  memory = shown_cell p.memory;
  links = shown_cell p.links;
  virtual_heap = shown_cell p.virtual_heap;
  old_virtual_heap = shown_cell p.old_virtual_heap;
}
