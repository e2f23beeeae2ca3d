-- What a walk over one term says of the whole.
use Rattle.std.proofs.Common.{◌≡◌, ℕ, suc, ◌+◌, ◌-◌, ◌≤◌, ◌==◌, Bool, true, false, if◌then◌else◌, List, [], ◌∷◌, length, drop, None, Some, refl, sym, ap, ◌∙◌, subst, arith, length-append}
use Rattle.std.specs.Option.{option_map}
use Rattle.std.proofs.lemmas.Bool.{false≢true, eq-eqb, eqb-true}
use Rattle.etf_terms.specs.Laws.{IsJudged, JudgesAll}
use Rattle.etf_terms.specs.Place.{IsPlace}
use Rattle.etf_terms.specs.Terms.{Term, IsTerm, IsExternal}
use Rattle.etf_terms.specs.Walks.{Walked, Done, Lost, bad_place, left_of, walk_terms}
use Rattle.etf_terms.proofs.Stepping.{term-is_done, done-is_term, not-done}
use Rattle.etf_terms.proofs.Placing.{Stops, stops-lost, stops-done, place-of, place-first, done-more}

-- ---- the bytes behind 131

is_external : (bytes : List ℕ) (t : Term) → IsTerm bytes t → IsExternal (131 ∷ bytes) t
is_external bytes t p = (bytes, refl, p)

not-external : (bytes : List ℕ) → ((t : Term) → IsTerm bytes t → ⊥) → (t : Term) → IsExternal (131 ∷ bytes) t → ⊥
not-external bytes none t p = none t (subst (λ l. IsTerm l t) (ap (drop 1) (sym p.1)) p.2)

-- a walk that doesn't end at their end went over no term
not-term : (bytes : List ℕ) (w : Walked) → walk_terms 1 bytes ≡ w → (Done [] ≡ w → ⊥) → (t : Term) → IsTerm bytes t → ⊥
not-term bytes w e other t p = other (sym (term-is_done bytes t p) ∙ e)

within : (bytes rest : List ℕ) → Stops bytes rest → length rest ≤ length bytes
within bytes rest s =
    let sizes : length bytes ≡ length s.taken + length rest = ap length s.split ∙ length-append s.taken rest in
    omega (arith, sizes)

pub within-lost : (bytes rest : List ℕ) → walk_terms 1 bytes ≡ Lost rest → length rest ≤ length bytes
within-lost bytes rest e = within bytes rest (stops-lost bytes rest e)

pub within-done : (bytes rest : List ℕ) → walk_terms 1 bytes ≡ Done rest → length rest ≤ length bytes
within-done bytes rest e = within bytes rest (stops-done bytes rest e)

place-left : (bytes rest : List ℕ) → Stops bytes rest → IsPlace (131 ∷ bytes) (suc (length bytes) - length rest)
place-left bytes rest s =
    let sizes : length bytes ≡ length s.taken + length rest = ap length s.split ∙ length-append s.taken rest in
    place-of bytes rest (suc (length bytes) - length rest) s (omega (arith, sizes))

judged-walk : (bytes : List ℕ) (w : Walked) → walk_terms 1 bytes ≡ w → IsJudged (131 ∷ bytes) (option_map (λ left. suc (length bytes) - left) (left_of w))
judged-walk bytes (Done []) e = let found = done-is_term bytes e in (found.0, is_external bytes found.0 found.1)
judged-walk bytes (Done (b ∷ rest)) e = (
  not-external bytes (not-term bytes (Done (b ∷ rest)) e (done-more b rest)),
  place-left bytes (b ∷ rest) (stops-done bytes (b ∷ rest) e),
)
judged-walk bytes (Lost rest) e = (
  not-external bytes (not-term bytes (Lost rest) e (λ same. not-done rest [] (sym same))),
  place-left bytes rest (stops-lost bytes rest e),
)

-- ---- all bytes

-- bytes that don't begin with 131
judged-other : (bytes : List ℕ) → ((rest : List ℕ) → bytes ≡ 131 ∷ rest → ⊥) → IsJudged bytes (Some 0)
judged-other bytes other = (λ t p. other p.0 p.1, place-first bytes other)

none-first : (rest : List ℕ) → [] ≡ 131 ∷ rest → ⊥
none-first rest e = cc

same-first : (b : ℕ) (bytes rest : List ℕ) → b ∷ bytes ≡ 131 ∷ rest → b ≡ 131
same-first b bytes rest e = cc

judged-first : (b : ℕ) (bytes : List ℕ) (t : Bool) → (b == 131) ≡ t
    → IsJudged (b ∷ bytes) (if t then option_map (λ left. suc (length bytes) - left) (left_of (walk_terms 1 bytes)) else Some 0)
judged-first b bytes true e =
    subst (λ a. IsJudged (a ∷ bytes) (option_map (λ left. suc (length bytes) - left) (left_of (walk_terms 1 bytes)))) (sym (eqb-true b 131 e))
    (judged-walk bytes (walk_terms 1 bytes) refl)
judged-first b bytes false e = judged-other (b ∷ bytes) (λ rest same. false≢true (sym e ∙ eq-eqb b 131 (same-first b bytes rest same)))

pub judges-all : JudgesAll
judges-all [] = judged-other [] none-first
judges-all (b ∷ bytes) = judged-first b bytes (b == 131) refl

-- ---- what is known of the place says what the bytes are

pub external-judged : (bytes : List ℕ) → bad_place bytes ≡ None → (t : Term) × IsExternal bytes t
external-judged bytes e = subst (IsJudged bytes) e (judges-all bytes)

pub bad-judged : (bytes : List ℕ) (at : ℕ) → bad_place bytes ≡ Some at → ((t : Term) → IsExternal bytes t → ⊥) × IsPlace bytes at
bad-judged bytes at e = subst (IsJudged bytes) e (judges-all bytes)

-- an external term's bytes are 131 and the term's
pub term-behind : (bytes : List ℕ) (b : ℕ) (rest : List ℕ) → bytes ≡ b ∷ rest → bad_place bytes ≡ None → (bytes ≡ 131 ∷ rest) × ((t : Term) × IsTerm rest t)
term-behind bytes b rest split none =
    let found = external-judged bytes none in
    let same : found.1.0 ≡ rest = ap (drop 1) (sym found.1.1 ∙ split) in
    (found.1.1 ∙ ap (λ l. 131 ∷ l) same, (found.0, subst (λ l. IsTerm l found.0) same found.1.2))

pub no-bytes : (rest : List ℕ) → length rest ≡ 0 → rest ≡ []
no-bytes [] e = refl
no-bytes (b ∷ rest) e = absurd (omega (arith, e))

pub left-more : (rest : List ℕ) → (length rest ≡ 0 → ⊥) → left_of (Done rest) ≡ Some (length rest)
left-more [] some = absurd (some refl)
left-more (b ∷ rest) some = refl
