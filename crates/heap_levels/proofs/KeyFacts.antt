-- The keys of several levels.
use Rattle.std.proofs.Common.{◌≡◌, ℕ, List, [], ◌∷◌, ◌++◌, map, refl, ap}
use Rattle.std.specs.Prelude.{All}
use Rattle.std.specs.List.{flat_map}
use Rattle.std.proofs.lemmas.List.Elements.{All-append, All-head, All-nil, All-tail}
use Rattle.part_keys.specs.KeyPlaces.{AreKeysWithin, IsKeyWithin}
use Rattle.heap_levels.specs.Inner.Plain.{all_keys}
use Rattle.heap_levels.specs.Inner.Descent.{shown_keyed}
use Rattle.heap_levels.specs.Inner.Reading.{level_keys}
use Rattle.heap_levels.specs.declared.levels.KeyedLevel.{KeyedLevel}

-- all of them stand in the heap
pub keys-within : (size : ℕ) (levels : List KeyedLevel) → All (λ k. AreKeysWithin size k.keys.items) levels → AreKeysWithin size (flat_map level_keys levels)
keys-within size [] within = All-nil (IsKeyWithin size)
keys-within size (k ∷ levels) within =
    All-append (IsKeyWithin size) (level_keys k) (flat_map level_keys levels)
    (All-head (λ (k : KeyedLevel). AreKeysWithin size k.keys.items) k levels within)
    (keys-within size levels (All-tail (λ (k : KeyedLevel). AreKeysWithin size k.keys.items) k levels within))

-- they are those of the levels that contracts see
pub keys-shown : (levels : List KeyedLevel) → flat_map level_keys levels ≡ all_keys (map shown_keyed levels)
keys-shown [] = refl
keys-shown (k ∷ levels) = ap (λ l. level_keys k ++ l) (keys-shown levels)
