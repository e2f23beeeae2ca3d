use Rattle.std.proofs.Common.{◌≡◌, drop}
use Rattle.dump_io.specs.File.{find_file}
use Rattle.dump_io.proofs.mem_dumps.place_of.Given as goal

abbrev pub invariant-loop-i : goal.invariant-loop-i
invariant-loop-i l = find_file l.files l.name ≡ find_file (drop l.i l.files) l.name
