use Rattle.std.proofs.lemmas.Option.{slice_get-get_or}
use Rattle.dump_io.specs.Pieces.{piece_text}
use Rattle.dump_io.specs.Laws.Puts.{WritesAll-none}
use Rattle.dump_write.proofs.Appends.{Appended-more, Appended-broken, Appended-all}
use Rattle.dump_write.proofs.appending.append_pieces.Goals as goal

pub loop-piece-init : goal.loop-piece-init
loop-piece-init c = WritesAll-none

pub loop-piece-preserved : goal.loop-piece-preserved
loop-piece-preserved c =
    Appended-more piece_text c.args.pieces.now c.loop-piece.piece-index _ (slice_get-get_or c.args.pieces.now c.loop-piece.piece-index _ c.loop-piece-test.true)
    c.loop-piece.invariant c.in_ok-append_piece.ensures

pub returns-in_err-append_piece : goal.returns-in_err-append_piece
returns-in_err-append_piece c =
    Appended-broken piece_text c.args.pieces.now c.loop-piece.piece-index _ (slice_get-get_or c.args.pieces.now c.loop-piece.piece-index _ c.loop-piece-test.true)
    c.loop-piece.invariant c.from_residual.ensures.0 c.in_err-append_piece.ensures

pub returns : goal.returns
returns c = Appended-all piece_text c.args.pieces.now c.loop-piece.piece-index c.loop-piece-test.false c.loop-piece.invariant
