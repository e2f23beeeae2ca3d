-- Texts that are compared.
use Rattle.std.proofs.Common.{◌≡◌, ℕ, true, List, refl, arith}
use Rattle.std.specs.Str.{bytes_eq}
use Rattle.std.proofs.lemmas.Bool.{false≢true}
use Rattle.std.proofs.lemmas.Slice.Eq.{bytes_eq-Decides}

-- each text is equal to itself
pub bytes_eq-refl : (x : List ℕ) → bytes_eq x x ≡ true
bytes_eq-refl x = (bytes_eq-Decides x x).1 refl

-- texts that compare as equal are the same
pub bytes_eq-same : (x y : List ℕ) → bytes_eq x y ≡ true → x ≡ y
bytes_eq-same x y is = (bytes_eq-Decides x y).0 is

-- the order of two texts doesn't matter
pub bytes_eq-swap : (x y : List ℕ) → bytes_eq x y ≡ bytes_eq y x
bytes_eq-swap x y = grind (arith, false≢true, bytes_eq-Decides, bytes_eq-same)
