-- Terms, and the bytes that spell them.
use Rattle.std.specs.Prelude.{◌≡◌, ℕ, suc, List, [], ◌∷◌, ◌++◌}
use Rattle.etf_terms.specs.Heads.{Head, kids}
use Rattle.etf_terms.specs.Layouts.{IsLaid}
use Rattle.etf_terms.specs.Table.{head_layout}

mutual
  -- a term: its first bytes, and the terms in it
  pub data Term : Type 0 where
    node : Head → Terms → Term

  -- terms in a row
  pub data Terms : Type 0 where
    none : Terms
    more : Term → Terms → Terms

-- how many terms these are
abbrev pub count : Terms → ℕ
count none = 0
count (more term terms) = suc (count terms)

abbrev mutual
  -- a head, followed by as many terms as it says
  pub IsTerm : List ℕ → Term → Type 0
  IsTerm bytes (node head terms) =
      (front : List ℕ) × (rest : List ℕ) × (bytes ≡ front ++ rest) × IsLaid head_layout front head
      × (count terms ≡ kids head) × AreTerms rest terms

  -- one term after another
  pub AreTerms : List ℕ → Terms → Type 0
  AreTerms bytes none = bytes ≡ []
  AreTerms bytes (more term terms) =
      (front : List ℕ) × (rest : List ℕ) × (bytes ≡ front ++ rest) × IsTerm front term × AreTerms rest terms

-- 131 and one term
abbrev pub IsExternal : List ℕ → Term → Type 0
IsExternal bytes term = (rest : List ℕ) × (bytes ≡ 131 ∷ rest) × IsTerm rest term
