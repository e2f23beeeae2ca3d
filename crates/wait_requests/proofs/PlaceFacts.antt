-- The first of several that passes one of two tests.
use Rattle.std.proofs.Common.{◌≡◌, ℕ, suc, ◌+◌, Bool, true, false, cond, not, List, [], ◌∷◌, ◌++◌, length, Some, refl, sym, ◌∙◌, ap, ap₂, arith}
use Rattle.std.specs.Prelude.{find, min, slice_get, ◌||◌, option_map}
use Rattle.std.specs.List.{position_or_len}
use Rattle.std.proofs.lemmas.List.Folds.{list_any-append}
use Rattle.link_graph.specs.Requests.{Request}
use Rattle.wait_requests.specs.References.{has_words}
use Rattle.wait_requests.specs.Waits.{asked_first, is_held}
use Rattle.wait_requests.specs.Inner.Asking.{before_held, before_words, target_at}

same-place : {X : Type 0} (p q : X → Bool) → ((x : X) → p x ≡ q x) → (xs : List X) → position_or_len p xs ≡ position_or_len q xs
same-place p q same [] = refl
same-place p q same (x ∷ xs) = ap₂ (λ b n. cond (not b) (1 + n) 0) (same x) (same-place p q same xs)

least : (a b : Bool) (m n k : ℕ) → k ≡ min m n → cond (not (a || b)) (1 + k) 0 ≡ min (cond (not a) (1 + m) 0) (cond (not b) (1 + n) 0)
least true b m n k is = omega arith
least false true m n k is = omega arith
least false false m n k is = omega (arith, is)

either-place : {X : Type 0} (p q : X → Bool) (xs : List X) → position_or_len (λ x. p x || q x) xs ≡ min (position_or_len p xs) (position_or_len q xs)
either-place p q [] = refl
either-place p q (x ∷ xs) = least (p x) (q x) (position_or_len p xs) (position_or_len q xs) _ (either-place p q xs)

-- one more reference
pub held-more : (requests : List Request) (helds : List (List ℕ)) (words : List ℕ) → before_held requests (helds ++ words ∷ []) ≡ min (before_held requests helds) (before_words requests words)
held-more requests helds words =
    same-place (is_held (helds ++ words ∷ [])) (λ request. is_held helds request || has_words words request.reference)
    (λ request. list_any-append (λ ws. has_words ws request.reference) helds (words ∷ []) ∙ or (is_held helds request) (has_words words request.reference))
    requests
    ∙ either-place (is_held helds) (λ request. has_words words request.reference) requests
  where
    or : (a b : Bool) → (a || (b || false)) ≡ (a || b)
    or true b = refl
    or false true = refl
    or false false = refl

-- no reference
pub held-none : (requests : List Request) → before_held requests [] ≡ length requests
held-none [] = refl
held-none (request ∷ requests) = let rest = held-none requests in omega (arith, rest)

get-next : (x : Request) (xs : List Request) (n : ℕ) → slice_get (x ∷ xs) (1 + n) ≡ slice_get xs n
get-next x xs n = let e : 1 + n ≡ suc n = omega arith in ap (slice_get (x ∷ xs)) e

-- whom the first asks that passes
pub first-target : (helds : List (List ℕ)) (requests : List Request) → asked_first helds requests ≡ target_at requests (before_held requests helds)
first-target helds [] = refl
first-target helds (request ∷ requests) = elim (is_held helds request) as (λ b. option_map (λ (r : Request). r.target) (cond b (Some request) (find (is_held helds) requests))
    ≡ option_map (λ (r : Request). r.target) (slice_get (request ∷ requests) (cond (not b) (1 + position_or_len (is_held helds) requests) 0))) [
      | true ↦ refl
      | false ↦ first-target helds requests ∙ sym (ap (λ o. option_map (λ (r : Request). r.target) o) (get-next request requests (position_or_len (is_held helds) requests)))
    ]
