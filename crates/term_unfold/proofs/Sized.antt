-- The text of a sized leaf, in three parts.
use Rattle.std.proofs.Common.{◌≡◌, ℕ, List, [], ◌++◌, ◌∙◌, ap, append_assoc}
use Rattle.std.specs.Prelude.{codes, decimal, Option}
use Rattle.term_unfold.specs.Leaves.{preview_text, sized_text}

pub sized-parts : (word : List ℕ) (size : ℕ) (preview : Option (List ℕ)) → (word ++ (decimal size ++ (codes ":" ++ []))) ++ (preview_text size preview ++ codes ">") ≡ sized_text word size preview
sized-parts word size preview =
    append_assoc word (decimal size ++ codes ":") (preview_text size preview ++ codes ">")
    ∙ ap (λ l. word ++ l) (append_assoc (decimal size) (codes ":") (preview_text size preview ++ codes ">"))
