-- References among external terms.
use Rattle.std.specs.Prelude.{◌≡◌, ◌↔◌, ℕ, ◌==◌, List, [], ◌∷◌, Option, None, Some, if◌then◌else◌, option_and_then}
use Rattle.etf_terms.specs.Heads.{Head, Ref}
use Rattle.etf_terms.specs.Layouts.{Layout, end, byte}
use Rattle.etf_terms.specs.Table.{head_layout}
use Rattle.etf_terms.specs.Terms.{IsExternal, node, none}

-- the bytes are 131 and a reference with these bytes of its words, whatever its node and creation are
pub record IsReference (bytes words : List ℕ) : Type 0 where
  pub name : List ℕ
  pub creation : ℕ
  pub spelled : IsExternal bytes (node (Ref name creation words) none)

-- the head that is laid out by all of these bytes, if there is one
abbrev pub head_in : Layout → List ℕ → Option Head
head_in (end head) [] = Some head
head_in (end head) (b ∷ bytes) = None
head_in (byte test next) [] = None
head_in (byte test next) (b ∷ bytes) = if test b then head_in (next b) bytes else None

-- the bytes of the words of a reference
abbrev pub words_in : Head → Option (List ℕ)
words_in (Ref name creation words) = Some words
words_in head = None

-- the bytes of its words, if these bytes are 131 and a reference
abbrev pub reference_in : List ℕ → Option (List ℕ)
reference_in [] = None
reference_in (b ∷ bytes) = if b == 131 then option_and_then words_in (head_in head_layout bytes) else None

-- what is computed of all bytes is so
abbrev pub ReadsReferences : Type 0
ReadsReferences = (bytes words : List ℕ) → (reference_in bytes ≡ Some words) ↔ IsReference bytes words
