use Rattle.std.proofs.lemmas.Option.{slice_get-get_or}
use Rattle.dump_io.specs.Pieces.{piece_text}
use Rattle.dump_io.specs.Laws.Puts.{HasPut-none, HasPut-more, Puts-broken, Puts-all}
use Rattle.dump_io.proofs.pieces.put_each.Goals as goal

pub loop-piece-init : goal.loop-piece-init
loop-piece-init g c = HasPut-none

pub loop-piece-preserved : goal.loop-piece-preserved
loop-piece-preserved g c =
    HasPut-more piece_text c.args.pieces.now c.loop-piece.piece-index _ (slice_get-get_or c.args.pieces.now c.loop-piece.piece-index _ c.loop-piece-test.true)
    c.loop-piece.invariant c.in_ok-put_piece.ensures

pub returns-in_err-put_piece : goal.returns-in_err-put_piece
returns-in_err-put_piece g c =
    Puts-broken piece_text c.args.pieces.now c.loop-piece.piece-index _ (slice_get-get_or c.args.pieces.now c.loop-piece.piece-index _ c.loop-piece-test.true)
    c.loop-piece.invariant c.from_residual.ensures.0 c.in_err-put_piece.ensures

pub returns : goal.returns
returns g c = Puts-all piece_text c.args.pieces.now c.loop-piece.piece-index c.loop-piece-test.false c.loop-piece.invariant
