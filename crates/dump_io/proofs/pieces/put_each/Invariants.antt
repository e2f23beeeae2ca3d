use Rattle.std.proofs.Common.{take}
use Rattle.dump_io.specs.Pieces.{pieces_text}
use Rattle.dump_io.specs.Sinks.{HasPut}
use Rattle.dump_io.proofs.pieces.put_each.Given as goal

-- the pieces so far are written
abbrev pub invariant-loop-piece : goal.invariant-loop-piece
invariant-loop-piece g l =
    HasPut (g.K.Sink.state l.initial.sink) (g.K.Sink.state l.sink) (pieces_text (take l.piece-index l.pieces))
