-- The process table of worked dumps, which the checker computes.
use Rattle.std.proofs.Common.{◌≡◌, [], ◌∷◌, None, Some, refl}
use Rattle.std.specs.Prelude.{codes}
use Rattle.section_rows.specs.Rows.{kept}
use Rattle.process_table.specs.Processes.{Process, ProcessTable, nobody, process_table}

-- the first section of a pid counts, and the others are repeated; a section without an id is that of no process
first_sections : process_table (codes "=erl_crash_dump:0.5\n=proc\n=proc:<0.1.0>\nLink list: x\nOldBinVHeap: 7\nName: a\n=proc_heap:<0.2.0>\n=proc:<0.1.0>\nName: b\n=proc:\nState:\n=end\n")
    ≡ (let first : Process = record {
      section = 2;
      pid = codes "<0.1.0>";
      state = None;
      name = Some (kept 68 74 (codes "a"));
      queue = None;
      memory = None;
      links = Some (kept 40 51 (codes "x"));
      virtual_heap = None;
      old_virtual_heap = Some (kept 53 66 (codes "7"));
    } in
    let second : Process = record nobody { section = 5; state = Some (kept 124 130 []) } in
    let table : ProcessTable = record { processes = first ∷ second ∷ []; repeated = 1 } in table)
first_sections = refl
