use Rattle.std.proofs.Common.{Some, take}
use Rattle.std.specs.List.{flat_map}
use Rattle.dump_write.specs.Inner.Pieces.{pieces_line}
use Rattle.dump_write.proofs.Appends.{Appended}
use Rattle.dump_write.proofs.appending.append_lines.Given as goal

-- the lines so far are appended
abbrev pub invariant-loop-pieces : goal.invariant-loop-pieces
invariant-loop-pieces l = Appended (Some l.initial.into.items) (Some l.into.items) (flat_map pieces_line (take l.pieces-index l.lines))
