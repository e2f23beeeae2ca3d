-- The definitions of tags, look-ups and cuts at worked examples, which the checker computes.
use Rattle.std.proofs.Common.{◌≡◌, true, false, [], ◌∷◌, None, Some, map, take, refl}
use Rattle.std.specs.Prelude.{codes}
use Rattle.dump_sections.specs.Lookups.{is_named, has_hex}
use Rattle.dump_sections.specs.Sections.{section, sections}
use Rattle.dump_sections.specs.Tags.{tag_counts}

-- each tag stands where it first appears
counted_tags : tag_counts (codes "b" ∷ codes "a" ∷ codes "b" ∷ codes "" ∷ codes "b" ∷ []) ≡ (codes "b", 3) ∷ (codes "a", 1) ∷ (codes "", 1) ∷ []
counted_tags = refl

-- an absent id isn't an empty one
named_ids : map (is_named (codes "a") None) (codes "=a" ∷ codes "=a:" ∷ codes "=ab" ∷ []) ≡ true ∷ false ∷ false ∷ []
named_ids = refl

-- an id is what follows the first colon, and is compared byte for byte
named_fronts : map (is_named (codes "a") (Some (codes "b:c"))) (codes "=a:b:c" ∷ codes "=a:b" ∷ codes "=a:B:c" ∷ codes "=a:b:cd" ∷ []) ≡ true ∷ false ∷ false ∷ false ∷ []
named_fronts = refl

-- a hex id may have leading zeros, and either case
hex_ids : map (has_hex (codes "a") 31) (codes "=a:1F" ∷ codes "=a:001f" ∷ codes "=a:0x1F" ∷ codes "=a" ∷ codes "=b:1F" ∷ []) ≡ true ∷ true ∷ false ∷ false ∷ false ∷ []
hex_ids = refl

whole_dump : sections (codes "=a\nx\n=b:c\n=d\n") ≡ section 0 3 5 (codes "=a") ∷ section 5 10 10 (codes "=b:c") ∷ section 10 13 13 (codes "=d") ∷ []
whole_dump = refl

-- what is left of it where it breaks off in its second header
cut_dump : sections (take 8 (codes "=a\nx\n=b:c\n=d\n")) ≡ section 0 3 5 (codes "=a") ∷ section 5 8 8 (codes "=b:") ∷ []
cut_dump = refl
