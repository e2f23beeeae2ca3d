use Rattle.std.proofs.Common.{◌≡◌, ◌≤◌, length, drop}
use Rattle.dump_io.specs.Pieces.{pieces_text}
use Rattle.dump_io.proofs.pieces.gather.Given as goal

-- the text is that of the pieces behind those that are left
abbrev pub invariant-loop-left : goal.invariant-loop-left
invariant-loop-left l = record {
  within : l.left ≤ length l.pieces;
  text : l.text ≡ pieces_text (drop l.left l.pieces);
}

abbrev pub decreases-loop-left : goal.decreases-loop-left
decreases-loop-left l = l.left
