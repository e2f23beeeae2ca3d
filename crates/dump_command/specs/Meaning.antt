-- What each question to a dump means: its row.
use Rattle.dump_questions.specs.Meaning.{Meaning}
use Rattle.command_words.specs.Command.{Ask, index, info, procs, proc, memory, field, table, triage, links, audit, audit_json, audit_settled, roots, term, peek_term, peek_roots, ext, reach, cells, binary, shapes, weigh, weigh_cell, heavy, binaries, holders, stacks, redact, fields, path, waits}
use Rattle.table_commands.specs.Rows.{index_row, info_row, procs_row, proc_row, memory_row, field_row, table_row, triage_row, links_row, audit_row, audit_json_row, audit_settled_row, fields_row}
use Rattle.heap_commands.specs.Rows.{roots_row, term_row, peek_term_row, peek_roots_row, ext_row, reach_row, cells_row, binary_row}
use Rattle.stream_commands.specs.Rows.{holders_row, binaries_row, stacks_row, redact_row, waits_row}
use Rattle.skeleton_commands.specs.Rows.{path_row, shapes_row, weigh_row, weigh_cell_row, heavy_row}

-- the row of each question
abbrev pub meaning : Ask → Meaning
meaning index = index_row
meaning info = info_row
meaning procs = procs_row
meaning (proc pid) = proc_row pid
meaning memory = memory_row
meaning (field key) = field_row key
meaning (fields tag key) = fields_row tag key
meaning (table kind) = table_row kind
meaning (roots kind pid nodes marked) = roots_row kind pid nodes marked
meaning (term pid addr nodes marked) = term_row pid addr nodes marked
meaning (peek_term pid addr nodes marked) = peek_term_row pid addr nodes marked
meaning (peek_roots kind pid first count nodes marked) = peek_roots_row kind pid first count nodes marked
meaning (ext pid addr) = ext_row pid addr
meaning (path pid addr) = path_row pid addr
meaning (reach pid) = reach_row pid
meaning (shapes pid most pids) = shapes_row pid most pids
meaning (weigh pid most) = weigh_row pid most
meaning (weigh_cell pid most addr) = weigh_cell_row pid most addr
meaning (heavy pid most) = heavy_row pid most
meaning (cells pid) = cells_row pid
meaning (binary addr) = binary_row addr
meaning binaries = binaries_row
meaning (holders addr) = holders_row addr
meaning (triage most) = triage_row most
meaning (stacks most) = stacks_row most
meaning (waits most) = waits_row most
meaning links = links_row
meaning redact = redact_row
meaning (audit limit full) = audit_row limit full
meaning (audit_json limit full) = audit_json_row limit full
meaning (audit_settled limit full) = audit_settled_row limit full
