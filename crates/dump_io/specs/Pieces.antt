-- The pieces of which a line is made.
use Rattle.std.specs.Prelude.{ℕ, List, decimal}
use Rattle.std.specs.List.{flat_map}
use Rattle.dump_io.specs.declared.pieces.Piece.{Piece}
use Rattle.dump_io.specs.declared.pieces.Piece.TheVariants.{Bytes, Dec, Hex}
use Rattle.dump_io.specs.Numbers.{hexadecimal}

-- what a piece writes
abbrev pub piece_text : Piece → List ℕ
piece_text (Bytes bytes) = bytes.now
piece_text (Dec n) = decimal n
piece_text (Hex n) = hexadecimal n

-- what the pieces write, one after another
abbrev pub pieces_text : List Piece → List ℕ
pieces_text pieces = flat_map piece_text pieces
