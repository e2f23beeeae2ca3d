-- Which texts are lists.
use Rattle.std.proofs.Common.{◌≡◌, ℕ, List, Option, Some, None, refl, ◌∙◌, ap}
use Rattle.std.specs.Prelude.{◌↔◌, IsSome, is_some, codes, map}
use Rattle.std.proofs.lemmas.Bool.{false≢true}
use Rattle.std.specs.Option.{option_map}
use Rattle.link_graph.specs.Texts.{inside}
use Rattle.link_graph.specs.Entries.{parts_of, entry_of, entries_at, IsList}
use Rattle.link_graph.proofs.Fronts.{inside_around, inside_parts}

pub list_is : (text : List ℕ) → IsSome (entries_at 0 text) ↔ IsList text
list_is text = (there (inside (codes "[") (codes "]") text) refl, back)
  where
    there : (o : Option (List ℕ)) → inside (codes "[") (codes "]") text ≡ o → IsSome (option_map (map entry_of) (option_map (parts_of 1) o)) → IsList text
    there None e h = absurd (false≢true h)
    there (Some inner) e h = (inner, inside_parts (codes "[") (codes "]") text inner e)

    back : IsList text → IsSome (entries_at 0 text)
    back (inner, e) =
        let found : inside (codes "[") (codes "]") text ≡ Some inner = ap (inside (codes "[") (codes "]")) e ∙ inside_around (codes "[") (codes "]") inner in
        ap (λ o. is_some (option_map (map entry_of) (option_map (parts_of 1) o))) found
