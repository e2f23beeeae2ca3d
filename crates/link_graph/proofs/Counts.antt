-- A list has no more entries than bytes.
use Rattle.std.proofs.Common.{◌≡◌, ℕ, suc, ◌+◌, ◌≤◌, Bool, List, [], ◌∷◌, ◌++◌, length, Option, Some, None, refl, ap, arith, if◌then◌else◌, length-append}
use Rattle.std.specs.Prelude.{codes, map, IfSome}
use Rattle.std.specs.Option.{option_map}
use Rattle.std.proofs.lemmas.List.{length-map}
use Rattle.link_graph.specs.Texts.{inside}
use Rattle.link_graph.specs.Entries.{is_gap, led_by, cut, parts_from, parts_of, entry_of, entries_at}
use Rattle.link_graph.proofs.Fronts.{inside_parts}

at_pair : (c d : ℕ) (text : List ℕ) (b : Bool) → length (cut text) ≤ suc (length text) → length (cut (d ∷ text)) ≤ suc (length (d ∷ text))
    → length (if b then [] ∷ cut text else led_by c (cut (d ∷ text))) ≤ suc (length (c ∷ d ∷ text))
at_pair c d text b behind others = grind arith

-- cutting gives one part more than the text has bytes, at most
length-cut : (text : List ℕ) → length (cut text) ≤ suc (length text)
unfolding cut
length-cut [] = omega arith
length-cut (c ∷ []) = omega arith
length-cut (c ∷ d ∷ text) = at_pair c d text (is_gap c d) (length-cut text) (length-cut (d ∷ text))

length-parts_from : (at : ℕ) (texts : List (List ℕ)) → length (parts_from at texts) ≡ length texts
length-parts_from at [] = refl
length-parts_from at (text ∷ texts) = ap suc (length-parts_from (at + length text + 2) texts)

length-parts_of : (at : ℕ) (inner : List ℕ) → length (parts_of at inner) ≤ suc (length inner)
length-parts_of at inner = grind (arith, length-parts_from, length-cut)

inner_bound : (at : ℕ) (inner text : List ℕ) → text ≡ codes "[" ++ (inner ++ codes "]") → length (map entry_of (parts_of (at + 1) inner)) ≤ length text
inner_bound at inner text e = grind (arith, length-append, length-map, length-parts_of)

pub length-entries : (at : ℕ) (text : List ℕ) → IfSome (entries_at at text) (λ left. length left ≤ length text)
length-entries at text = of (inside (codes "[") (codes "]") text) refl
  where
    of : (o : Option (List ℕ)) → inside (codes "[") (codes "]") text ≡ o → IfSome (option_map (map entry_of) (option_map (parts_of (at + 1)) o)) (λ left. length left ≤ length text)
    of None e = tt
    of (Some inner) e = inner_bound at inner text (inside_parts (codes "[") (codes "]") text inner e)
