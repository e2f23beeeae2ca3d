-- What is written before a text that ends where its buffer does.
use Rattle.std.proofs.Common.{◌≡◌, ℕ, ◌-◌, ◌<◌, ◌≤◌, Bool, true, if◌then◌else◌, List, [], ◌∷◌, ◌++◌, length, drop, get_or, slice_set, ◌∙◌, ap, drop-drop, arith}
use Rattle.std.proofs.lemmas.List.{drop_all, drop_at, drop_more, length-take-le}
use borrow.Rule.Slice.PartMut.{put_mid}
use Rattle.dump_io.specs.declared.pieces.Piece.{Piece}
use Rattle.dump_io.specs.Pieces.{piece_text, pieces_text}
use Rattle.dump_io.proofs.Digits.{drop-put}

pub single : (bytes : List ℕ) → length bytes ≡ 1 → bytes ≡ get_or bytes 0 0 ∷ []
single bytes one = drop_more bytes 0 0 (omega (arith, one)) ∙ ap (λ l. get_or bytes 0 0 ∷ l) (drop_all 1 bytes (omega (arith, one)))

-- a single byte
pub front-byte : (xs bytes : List ℕ) (end c : ℕ) → bytes ≡ c ∷ [] → length bytes ≤ end → end ≤ length xs
    → drop (end - length bytes) (slice_set xs (end - length bytes) c) ≡ bytes ++ drop end xs
front-byte xs bytes end c is fits within = grind (arith, drop-put)

-- bytes that are copied
pub front-copied : (xs bytes : List ℕ) (from end k : ℕ) → from ≤ end → end ≤ length xs → k ≡ end - from
    → drop from (put_mid from k xs bytes) ≡ bytes ++ drop end xs
front-copied xs bytes from end k ordered within count = grind (arith, drop_at, length-take-le, drop-drop)

-- one piece more
pub pieces_text-before : (pieces : List Piece) (left : ℕ) (d : Piece) → 0 < left → left ≤ length pieces
    → pieces_text (drop (left - 1) pieces) ≡ piece_text (get_or pieces (left - 1) d) ++ pieces_text (drop left pieces)
pieces_text-before pieces left d some within = grind (arith, drop_more)

pub gathered : (pieces : List Piece) (left : ℕ) (d : Piece) (before after : List ℕ) (room : Bool) → 0 < left → left ≤ length pieces
    → before ≡ pieces_text (drop left pieces) → after ≡ (if room then piece_text (get_or pieces (left - 1) d) ++ before else before) → room ≡ true
    → after ≡ pieces_text (drop (left - 1) pieces)
gathered pieces left d before after room some within are put there = grind (arith, pieces_text-before)
