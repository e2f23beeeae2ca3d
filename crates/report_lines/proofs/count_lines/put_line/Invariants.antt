use Rattle.std.proofs.Common.{◌≡◌, ◌-◌, ◌*◌, ◌++◌, take, replicate}
use Rattle.dump_io.specs.declared.pieces.Piece.{Piece}
use Rattle.dump_io.specs.Pieces.{piece_text}
use Rattle.report_lines.proofs.Spread.{spread}
use Rattle.report_lines.proofs.count_lines.put_line.Given as goal

-- the parts so far stand at their places, and everywhere else is what goes between them
abbrev pub invariant-loop-part : goal.invariant-loop-part
invariant-loop-part g l =
    (gap : Piece) × (piece_text gap ≡ l.between) × (l.end ≡ 2 * l.part-index)
    × (l.pieces ≡ spread gap (take l.part-index l.parts) ++ replicate (16 - 2 * l.part-index) gap)
