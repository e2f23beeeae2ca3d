-- The definitions of fields at worked examples, which the checker computes.
use Rattle.std.proofs.Common.{◌≡◌, [], ◌∷◌, None, Some, map, refl}
use Rattle.std.specs.Prelude.{codes}
use Rattle.field_lines.specs.Lines.{text_lines}
use Rattle.field_lines.specs.Fields.{field_of, find_field, find_value}

-- offsets count the CR and the LF, and a CR stays in a last line without LF
body_lines : text_lines (codes "a: b\r\n\nx\r")
    ≡ record { at = 0; text = codes "a: b" } ∷ record { at = 6; text = [] } ∷ record { at = 7; text = codes "x\r" } ∷ []
body_lines = refl

-- the first colon splits, one space goes, and key and value may be empty
fields : map field_of (codes "a: b" ∷ codes "a:  b:c " ∷ codes ":" ∷ codes "a b" ∷ [] ∷ [])
    ≡ Some (record { key = codes "a"; value = codes "b" }) ∷ Some (record { key = codes "a"; value = codes " b:c " })
    ∷ Some (record { key = []; value = [] }) ∷ None ∷ None ∷ []
fields = refl

-- the first line with the whole key counts
first_field : find_field (codes "ab: 1\r\na: 2\na: 3") (codes "a") ≡ Some (record { at = 7; from = 10; upto = 11 })
first_field = refl

first_value : find_value (codes "ab: 1\r\na: 2\na: 3") (codes "a") ≡ Some (codes "2")
first_value = refl

no_field : find_field (codes "ab: 1\r\na\n") (codes "a") ≡ None
no_field = refl
