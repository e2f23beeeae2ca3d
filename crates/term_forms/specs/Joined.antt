-- Elements joined by commas.
use Rattle.std.specs.Prelude.{◌≡◌, ℕ, List, [], ◌∷◌, ◌++◌}
use Rattle.term_forms.specs.Words.{comma}
use Rattle.term_forms.specs.Elements.{Element, IsElem, plain_elem}

-- the text is the spellings of the elements, joined by commas; if there are none, it is empty
abbrev pub IsJoined : List ℕ → List Element → Type 0
IsJoined text [] = text ≡ []
IsJoined text (e ∷ []) = IsElem text e
IsJoined text (e ∷ d ∷ es) =
    (first : List ℕ) × (rest : List ℕ) × (text ≡ first ++ comma ∷ rest) × IsElem first e × IsJoined rest (d ∷ es)

-- the plain spellings, joined by commas
abbrev pub plain_joined : List Element → List ℕ
plain_joined [] = []
plain_joined (e ∷ []) = plain_elem e
plain_joined (e ∷ d ∷ es) = plain_elem e ++ comma ∷ plain_joined (d ∷ es)
