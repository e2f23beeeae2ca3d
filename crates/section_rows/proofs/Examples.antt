-- The definitions of cells at a worked section, which the checker computes.
use Rattle.std.proofs.Common.{◌≡◌, [], ◌∷◌, None, Some, map, refl}
use Rattle.std.specs.Prelude.{codes}
use Rattle.dump_sections.specs.Sections.{section}
use Rattle.dump_sections.specs.Loading.{first_large}
use Rattle.section_rows.specs.Rows.{kept, tag, id, field, column_cell}

-- a value's offset is that of the value, and the first of two fields counts
cells : map (column_cell (section 20 30 52 (codes "=node:b:1")) (codes "A:  x:y\nB\nC:\r\nA: z\n")) (tag ∷ id ∷ field (codes "A") ∷ field (codes "B") ∷ field (codes "C") ∷ [])
    ≡ Some (kept 20 21 (codes "node")) ∷ Some (kept 20 26 (codes "b:1")) ∷ Some (kept 30 33 (codes " x:y")) ∷ None ∷ Some (kept 40 42 []) ∷ []
cells = refl

-- an absent id isn't an empty one
ids : map (λ text. column_cell (section 5 10 10 text) [] id) (codes "=ets" ∷ codes "=ets:" ∷ []) ≡ None ∷ Some (kept 5 10 []) ∷ []
ids = refl

-- a body of the limit isn't too large, and the first that is longer is named
large : first_large 2 (section 0 3 5 [] ∷ section 5 6 9 [] ∷ section 9 10 14 [] ∷ []) ≡ Some (section 5 6 9 [])
large = refl
