-- Bytes up to an LF.
use Rattle.std.proofs.Common.{◌≡◌, ℕ, ◌+◌, ◌<◌, ◌≤◌, ◌==◌, Bool, true, false, not, List, [], ◌∷◌, ◌++◌, length, take, get_or, eqb, sym, ◌∙◌, ap, arith}
use Rattle.std.specs.Prelude.{◌≢◌, All}
use Rattle.std.specs.List.{list_all}
use Rattle.std.proofs.lemmas.Bool.{and_parts, eqb-true, not-true}
use Rattle.std.proofs.lemmas.List.{get_or-take, length-take-le, take_more}
use Rattle.std.proofs.lemmas.List.Elements.{All-from_get_or}
use Rattle.memchr.specs.Find.{Passes, is_byte, Nowhere}
use Rattle.dump_io.specs.Lines.{lf}

-- bytes without an LF
abbrev pub lacks_lf : List ℕ → Bool
lacks_lf bytes = list_all (λ c. not (c == lf)) bytes

-- of bytes without an LF neither the first is one, nor has the rest one
pub lacks_lf-head : (c : ℕ) (bytes : List ℕ) → lacks_lf (c ∷ bytes) ≡ true → (c == lf) ≡ false
lacks_lf-head c bytes lacks = not-true (c == lf) (and_parts _ _ lacks).0

pub lacks_lf-tail : (c : ℕ) (bytes : List ℕ) → lacks_lf (c ∷ bytes) ≡ true → lacks_lf bytes ≡ true
lacks_lf-tail c bytes lacks = (and_parts _ _ lacks).1

-- no LF stands among the first n bytes
pub lf_free : (bytes : List ℕ) (n : ℕ) → n ≤ length bytes → Nowhere (Passes (is_byte lf) bytes) 0 n → All (λ c. c ≢ lf) (take n bytes)
lf_free bytes n fits none =
    All-from_get_or (λ c. c ≢ lf) (take n bytes) 0 (λ i l same.
    let len : length (take n bytes) ≡ n = length-take-le n bytes fits in
    let inside : i < n = omega (arith, l, len) in
    none i (omega arith) inside (ap (λ c. eqb c lf) (sym (get_or-take n bytes i 0 inside) ∙ same)))

-- the bytes up to an LF
pub upto-lf : (bytes : List ℕ) (k : ℕ) → k < length bytes → Passes (is_byte lf) bytes k → take (k + 1) bytes ≡ take k bytes ++ lf ∷ []
upto-lf bytes k inside here = take_more bytes k 0 inside ∙ ap (λ c. take k bytes ++ c ∷ []) (eqb-true (get_or bytes k 0) lf here)
