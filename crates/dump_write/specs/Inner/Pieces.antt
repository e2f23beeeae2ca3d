-- Lines that are written from pieces.
use Rattle.std.specs.Prelude.{ℕ, List}
use Rattle.std.specs.Borrow.{Bor}
use Rattle.dump_io.specs.Pieces.{pieces_text}
use Rattle.dump_io.specs.declared.pieces.Piece.{Piece}
use Rattle.dump_write.specs.Written.{line}

abbrev pub pieces_line : Bor (List Piece) → List ℕ
pieces_line pieces = line (pieces_text pieces.now)
