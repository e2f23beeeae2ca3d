use Rattle.std.proofs.Common.{◌≡◌, ◌-◌, ◌++◌}
use Rattle.std.specs.List.{flat_map, range_with_len}
use Rattle.dump_write.specs.Made.{made_process}
use Rattle.dump_write.specs.Written.{lines_of}
use Rattle.dump_write.proofs.made.put_processes.Given as goal

-- the processes so far are appended
abbrev pub invariant-loop-i : goal.invariant-loop-i
invariant-loop-i l = l.into.items ≡ l.fn.into.items ++ lines_of (flat_map (made_process l.seed l.count) (range_with_len 1 (l.i - 1)))
