-- The groups at a worked example, which the checker computes.
use Rattle.std.proofs.Common.{◌≡◌, [], ◌∷◌, refl}
use Rattle.std.specs.Prelude.{codes}
use Rattle.text_groups.specs.Groups.{groups}

-- each group stands where its first item does, with the weights of all its items together
in_order : groups (record { text = codes "a"; weight = 1 } ∷ record { text = codes "b"; weight = 2 } ∷ record { text = codes "a"; weight = 3 } ∷ [])
    ≡ record { first = 0; count = 2; weight = 4 } ∷ record { first = 1; count = 1; weight = 2 } ∷ []
in_order = refl
