-- Numbers that the sections of processes state.
use Rattle.std.specs.Prelude.{ℕ, ◌+◌, ◌*◌, Option, unwrap_or}
use Rattle.std.specs.Option.{option_and_then}
use Rattle.dump_io.specs.Numbers.{dec_number}
use Rattle.section_rows.specs.Rows.{Kept, text_in}
use Rattle.process_table.specs.Processes.{Process}

-- the number that the text of a cell writes
abbrev pub stated_number : Option Kept → Option ℕ
stated_number cell = option_and_then dec_number (text_in cell)

-- how many words the binaries take to which a process refers: the sum of
-- its counts for its young and its old cells; what isn't a number counts 0
abbrev pub binary_words : Process → ℕ
binary_words process = unwrap_or (stated_number process.virtual_heap) 0 + unwrap_or (stated_number process.old_virtual_heap) 0

-- how many bytes these are: a word has 8, on a node of 64 bits
abbrev pub binary_bytes : Process → ℕ
binary_bytes process = 8 * binary_words process
