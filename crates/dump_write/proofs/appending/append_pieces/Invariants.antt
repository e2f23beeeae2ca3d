use Rattle.std.proofs.Common.{Some, take}
use Rattle.dump_io.specs.Pieces.{pieces_text}
use Rattle.dump_write.proofs.Appends.{Appended}
use Rattle.dump_write.proofs.appending.append_pieces.Given as goal

-- the pieces so far are appended
abbrev pub invariant-loop-piece : goal.invariant-loop-piece
invariant-loop-piece l = Appended (Some l.initial.into.items) (Some l.into.items) (pieces_text (take l.piece-index l.pieces))
