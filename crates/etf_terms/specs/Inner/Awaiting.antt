-- How many heads are open at once while a term is written.
use Rattle.std.specs.Prelude.{◌≡◌, ℕ, suc, ◌+◌, ◌*◌, ◌<◌, ◌==◌, max, List, [], ◌∷◌, ◌++◌, length, Result, IfOk, if◌then◌else◌}
use Rattle.std.specs.Borrow.{Bor}
use Rattle.etf_terms.specs.Terms.{Terms, count, AreTerms}
use Rattle.etf_terms.specs.Depth.{deepest}

-- a head is open if it has terms
abbrev pub opened : ℕ → List ℕ → List ℕ
opened count counts = if count == 0 then counts else count ∷ counts

-- the bytes are the terms that the open heads still need, from
-- the innermost outwards, and from now on at most `most` are open
abbrev pub Awaits : List ℕ → List ℕ → ℕ → Type 0
Awaits [] rest most = (rest ≡ []) × (most ≡ 0)
Awaits (n ∷ ns) rest most =
    (terms : Terms) × (front : List ℕ) × (behind : List ℕ) × (below : ℕ) × (rest ≡ front ++ behind) × AreTerms front terms
    × (count terms ≡ n) × (most ≡ max (suc (length ns) + deepest terms) below) × Awaits ns behind below

-- a step leaves these counts and bytes, and the most that are open at once are so now or later
pub record Goes (wide most : ℕ) (counts rest : List ℕ) : Type 0 where
  pub later : ℕ
  pub awaits : Awaits counts rest later
  pub reaches : max wide most ≡ max wide (max (length counts) later)

-- the bytes and the open heads that are left come closer to the end
abbrev pub Falls : {X E : Type 0} → List ℕ → List X → List X → Result (Bor (List ℕ)) E → Type 0
Falls rest before after result =
    IfOk result (λ behind. 2 * length behind.now + length after < 2 * length rest + length before + 1)
