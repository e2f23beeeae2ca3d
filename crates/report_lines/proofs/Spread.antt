-- Parts with the same piece behind each of them.
use Rattle.std.proofs.Common.{◌≡◌, ℕ, zero, suc, ◌+◌, ◌-◌, ◌*◌, ◌<◌, ◌≤◌, List, [], ◌∷◌, ◌++◌, length, take, map, replicate, Some, refl, sym, ◌∙◌, ap, append_assoc, arith, length-append, slice_get, slice_set}
use Rattle.std.proofs.lemmas.List.{length-replicate, length-set, length-take-le, set-append_left, set-append_right, take-append-le, take_all}
use Rattle.dump_io.specs.declared.pieces.Piece.{Piece}
use Rattle.dump_io.specs.Pieces.{piece_text, pieces_text}
use Rattle.report_lines.specs.Lines.{line_of, newline}

abbrev pub spread : Piece → List Piece → List Piece
spread sep [] = []
spread sep (part ∷ parts) = part ∷ sep ∷ spread sep parts

pub length-spread : (sep : Piece) (parts : List Piece) → length (spread sep parts) ≡ 2 * length parts
length-spread sep [] = refl
length-spread sep (part ∷ parts) = omega (arith, length-spread sep parts)

-- one part more
spread-more : (sep : Piece) (parts : List Piece) (i : ℕ) (part : Piece) → slice_get parts i ≡ Some part
    → spread sep (take (i + 1) parts) ≡ spread sep (take i parts) ++ part ∷ sep ∷ []
spread-more sep [] i part is = cc
spread-more sep (p ∷ ps) zero part is = let same : p ≡ part = cc in ap (λ q. q ∷ sep ∷ []) same
spread-more sep (p ∷ ps) (suc i) part is = grind (arith, spread-more sep ps i part is)

-- there is room for six parts
pub length-pieces : (sep : Piece) (parts pieces : List Piece) (i : ℕ) → pieces ≡ spread sep (take i parts) ++ replicate (16 - 2 * i) sep
    → i ≤ length parts → length parts ≤ 8 → length pieces ≡ 16
length-pieces sep parts pieces i are within few =
    let front = spread sep (take i parts) in
    omega (arith, ap length are, length-append front (replicate (16 - 2 * i) sep), length-spread sep (take i parts), length-take-le i parts within, length-replicate (16 - 2 * i) sep, few)

-- so a piece that is put anywhere leaves this many
pub length-front : (pieces : List Piece) (n at : ℕ) (piece : Piece) → n ≤ length pieces → n ≡ length (take n (slice_set pieces at piece))
length-front pieces n at piece fits = sym (length-take-le n (slice_set pieces at piece) (omega (arith, fits, length-set pieces at piece)))

-- one part more is put at its place
pub set-spread : (sep : Piece) (parts pieces : List Piece) (i end room : ℕ) (part : Piece) → pieces ≡ spread sep (take i parts) ++ replicate (suc (suc room)) sep
    → end ≡ 2 * i → i < length parts → slice_get parts i ≡ Some part → slice_set pieces end part ≡ spread sep (take (i + 1) parts) ++ replicate room sep
set-spread sep parts pieces i end room part are at inside is =
    let front = spread sep (take i parts) in
    let here : length front ≡ 2 * i = omega (arith, inside, length-take-le i parts (omega (arith, inside)), length-spread sep (take i parts)) in
    let none : 2 * i - 2 * i ≡ 0 = omega arith in
    ap (λ ps. slice_set ps end part) are ∙ ap (λ n. slice_set (front ++ replicate (suc (suc room)) sep) n part) at
    ∙ set-append_right front (replicate (suc (suc room)) sep) (2 * i) (2 * i) part here (omega arith)
    ∙ ap (λ n. front ++ slice_set (replicate (suc (suc room)) sep) n part) none
    ∙ sym (append_assoc front (part ∷ sep ∷ []) (replicate room sep))
    ∙ ap (λ ps. ps ++ replicate room sep) (sym (spread-more sep parts i part is))

-- the last piece behind the parts is the end of the line
text-spread : (sep end part : Piece) (parts : List Piece) → piece_text end ≡ newline
    → pieces_text (slice_set (spread sep (part ∷ parts)) (2 * length parts + 1) end) ≡ line_of (piece_text sep) (map piece_text (part ∷ parts))
text-spread sep end part [] is = ap (λ t. piece_text part ++ (t ++ [])) is
text-spread sep end part (next ∷ parts) is =
    let place : 2 * length (next ∷ parts) + 1 ≡ suc (suc (2 * length parts + 1)) = omega arith in
    ap (λ n. pieces_text (slice_set (spread sep (part ∷ next ∷ parts)) n end)) place
    ∙ ap (λ t. piece_text part ++ (piece_text sep ++ t)) (text-spread sep end next parts is)

-- so the pieces are those of the line
pub text-pieces : (between : List ℕ) (sep last : Piece) (parts pieces rest : List Piece) (end : ℕ) → piece_text sep ≡ between → pieces ≡ spread sep parts ++ rest → end ≡ 2 * length parts → 0 < length parts
    → piece_text last ≡ newline → pieces_text (take end (slice_set pieces (end - 1) last)) ≡ line_of between (map piece_text parts)
text-pieces between sep last [] pieces rest end gap are at some is = absurd (omega (arith, some))
text-pieces between sep last (part ∷ parts) pieces rest end gap are at some is =
    let place : end - 1 ≡ 2 * length parts + 1 = omega (arith, at) in
    let front = spread sep (part ∷ parts) in
    let long : length front ≡ end = omega (arith, at, length-spread sep (part ∷ parts)) in
    let ended = slice_set front (2 * length parts + 1) last in
    let as_long : length ended ≡ end = omega (arith, long, length-set front (2 * length parts + 1) last) in
    ap (λ ps. pieces_text (take end (slice_set ps (end - 1) last))) are
    ∙ ap (λ n. pieces_text (take end (slice_set (front ++ rest) n last))) place
    ∙ ap (λ ps. pieces_text (take end ps)) (set-append_left front rest (2 * length parts + 1) last (omega (arith, long, at)))
    ∙ ap pieces_text (take-append-le end ended rest (omega (arith, as_long)) ∙ take_all end ended (omega (arith, as_long)))
    ∙ text-spread sep last part parts is ∙ ap (λ text. line_of text (map piece_text (part ∷ parts))) gap
