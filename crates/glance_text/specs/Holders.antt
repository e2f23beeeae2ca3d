-- The texts of the reports on the stored binaries and on the holders of one of them. Offsets are of the file.
use Rattle.std.specs.Prelude.{ℕ, List, [], ◌∷◌, ◌++◌, length, decimal, codes, Option, None, Some}
use Rattle.std.specs.List.{flat_map}
use Rattle.std.specs.Option.{option_and_then}
use Rattle.dump_io.specs.Numbers.{dec_number, hexadecimal}
use Rattle.text_groups.specs.Sums.{capped}
use Rattle.field_lines.specs.Fields.{find_value}
use Rattle.dump_sections.specs.Index.{Contents}
use Rattle.process_table.specs.Processes.{Process, process_at}
use Rattle.binary_holders.specs.declared.rows.BinaryRow.{BinaryRow}
use Rattle.binary_holders.specs.declared.rows.Holding.{Holding}
use Rattle.binary_holders.specs.declared.rows.WholeLines.{WholeLines}
use Rattle.binary_holders.specs.Usage.{Usage}
use Rattle.report_lines.specs.Lines.{line_of, word_space, tab, total_line}
use Rattle.report_text.specs.Tables.{process_end}

-- the line of a process that has binaries: how many bytes the node counted for it, how many bytes the stored ones have that it
-- holds, how many these are, how many lines of its heap refer to binaries, stored or not, and which process it is
abbrev pub held_line : Contents → List Process → Holding → List ℕ
held_line index processes held =
    line_of tab (codes "held" ∷ decimal (capped held.counted) ∷ decimal held.bytes ∷ decimal held.count ∷ decimal held.lines
    ∷ process_end index (process_at processes held.process))

-- the line of a stored binary: its size, how many processes hold
-- it, its address, and where the header of its section begins
abbrev pub stored_line : BinaryRow → List ℕ
stored_line row = line_of tab (codes "binary" ∷ decimal row.size ∷ decimal row.holders ∷ hexadecimal row.number ∷ decimal row.at ∷ [])

-- the line of all binaries: how many stored ones there are, how many
-- bytes they have together, and how many of them a process holds
abbrev pub binaries_line : ℕ → ℕ → ℕ → List ℕ
binaries_line count bytes held =
    line_of word_space (codes "binaries" ∷ decimal count ∷ codes "bytes" ∷ decimal bytes ∷ codes "held" ∷ decimal held ∷ [])

-- the line of the lines of heaps that refer to whole binaries: how many of them refer to none that is stored, and how many there are
abbrev pub unstored_line : WholeLines → List ℕ
unstored_line lines = line_of word_space (codes "unstored" ∷ decimal lines.unstored ∷ codes "of" ∷ decimal lines.count ∷ [])

-- how many bytes the binaries of the node took, as the first field `binary` of this body of a `memory` section says
abbrev pub stated_bytes : List ℕ → Option ℕ
stated_bytes memory_body = option_and_then dec_number (find_value memory_body (codes "binary"))

-- the line of this number of bytes, which the binaries of the node took, if the dump states it
abbrev pub stated_line : Option ℕ → List ℕ
stated_line None = []
stated_line (Some bytes) = line_of word_space (codes "memory" ∷ decimal bytes ∷ [])

-- the lines about all binaries together, of which the third has what the node counted for all processes, with this body of the first `memory` section, which is empty if there is none
abbrev pub totals : List ℕ → Usage → List ℕ
totals memory_body usage =
    binaries_line (length usage.binaries) usage.bytes usage.with_holders
    ++ (unstored_line usage.lines ++ (total_line (codes "counted") usage.counted ++ stated_line (stated_bytes memory_body)))

-- the report of `binaries` on a dump with these sections, this body of the first
-- `memory` section and these processes
abbrev pub binaries_report : Contents → List ℕ → List Process → Usage → List ℕ
binaries_report index memory_body processes usage =
    flat_map (held_line index processes) usage.held ++ (flat_map stored_line usage.binaries ++ totals memory_body usage)

-- the line of a process that holds a binary: how many lines of its heap refer
-- to it, which process it is, and the address of the first of these lines
abbrev pub holder_line : Contents → List Process → Holding → List ℕ
holder_line index processes held =
    line_of tab (decimal held.cells ∷ (process_end index (process_at processes held.process) ++ hexadecimal held.first ∷ []))

-- the report of `holders` on a dump with these sections and processes
abbrev pub holders_report : Contents → List Process → List Holding → List ℕ
holders_report index processes held = flat_map (holder_line index processes) held ++ total_line (codes "holders") (length held)
