-- The definitions at worked examples, which the checker computes.
use Rattle.std.proofs.Common.{◌≡◌, [], ◌∷◌, map, refl}
use Rattle.std.specs.Prelude.{codes}
use Rattle.term_forms.specs.Words.{led_of}
use Rattle.binary_refs.specs.StoredBinaries.{size_stated}

-- a size is a number of 1 to 16 hex digits in front of the first colon
sizes : map size_stated (codes "5:aGVsbG8=\n" ∷ codes "fF:" ∷ codes "0000000000000010:" ∷ codes "00000000000000010:" ∷ codes ":5" ∷ codes "5" ∷ codes "5\n6:" ∷ [] ∷ [])
    ≡ 5 ∷ 255 ∷ 16 ∷ 0 ∷ 0 ∷ 0 ∷ 0 ∷ 0 ∷ []
unfolding led_of
sizes = refl
