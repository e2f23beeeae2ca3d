-- Laws of the definitions, each with its proof, for the proofs of callers.
use Rattle.std.proofs.Common.{◌≡◌, ℕ, ◌+◌, ◌-◌, true, false, List, [], ◌∷◌, length, drop, length-drop, arith, nat_eq}
use Rattle.std.specs.List.{ends_with}
use Rattle.std.specs.Cmp.Lexicographic.{pointwise}
use Rattle.std.proofs.lemmas.List.{drop-drop}
use Rattle.dump_io.specs.Lines.{lf, cr, text_of}
use Rattle.line_source.specs.Streams.{has_lf}

-- a line that ends with CR and LF ends with LF
two-end : (bytes : List ℕ) → pointwise nat_eq (cr ∷ lf ∷ []) bytes ≡ true → (pointwise nat_eq (lf ∷ []) (drop 1 bytes) ≡ true) × (length bytes ≡ 2)
two-end bytes is = grind arith

has_lf-cr : (raw : List ℕ) → ends_with nat_eq raw (cr ∷ lf ∷ []) ≡ true → has_lf raw ≡ true
has_lf-cr raw is =
    let two = two-end (drop (length raw - 2) raw) is in
    let place : length raw - 2 + 1 ≡ length raw - 1 = omega (arith, two.1, length-drop (length raw - 2) raw) in
    cc (drop-drop 1 (length raw - 2) raw, two.0)

-- the text of a line that lacks its LF is the whole line
pub text_of-open : (raw : List ℕ) → has_lf raw ≡ false → text_of raw ≡ raw
text_of-open raw e = grind (arith, has_lf-cr)
