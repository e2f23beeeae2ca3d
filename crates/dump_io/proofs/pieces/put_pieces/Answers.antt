use Rattle.std.proofs.Common.{◌≡◌, ℕ, List, ◌++◌, take, drop, sym, ◌∙◌, ap}
use Rattle.std.proofs.lemmas.List.{take-append-drop}
use Rattle.std.proofs.lemmas.List.Concat.{flat_map-append}
use Rattle.dump_io.specs.Pieces.{piece_text, pieces_text}
use Rattle.dump_io.specs.declared.pieces.Piece.{Piece}
use Rattle.dump_io.specs.Laws.Puts.{Puts-as, Puts-then, Puts-stopped}
use Rattle.dump_io.proofs.pieces.put_pieces.Goals as goal

-- the pieces that are left, and those in the text
parts : (pieces : List Piece) (left : ℕ) → pieces_text (take left pieces) ++ pieces_text (drop left pieces) ≡ pieces_text pieces
parts pieces left = sym (flat_map-append piece_text (take left pieces) (drop left pieces)) ∙ ap pieces_text (take-append-drop left pieces)

pub returns-in_err-put_each : goal.returns-in_err-put_each
returns-in_err-put_each g c =
    Puts-as (parts c.args.pieces.now c.gather-left.result) (Puts-stopped (pieces_text (drop c.gather-left.result c.args.pieces.now)) c.from_residual.ensures.0 c.in_err-put_each.ensures)

pub returns : goal.returns
returns g c =
    Puts-as (parts c.args.pieces.now c.gather-left.result)
    (Puts-then c.in_ok-put_each.ensures (Puts-as (c.bytes.ensures ∙ c.gather-left.ensures.text) c.write_all.ensures.puts))
