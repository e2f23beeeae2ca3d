-- Sums and counts over lists whose elements agree.
use Rattle.std.proofs.Common.{◌≡◌, ◌≢◌, ℕ, zero, suc, ◌+◌, ◌<◌, ◌≤◌, Bool, true, false, cond, List, [], ◌∷◌, length, get_or, filter, refl, sym, ◌∙◌, ap, arith}
use Rattle.std.specs.List.{sum_by}
use Rattle.std.proofs.lemmas.List.Sums.{sum_by-cons}

pub sum-agree : {X : Type 0} (f g : X → ℕ) (xs : List X) (d : X) → ((k : ℕ) → k < length xs → g (get_or xs k d) ≡ f (get_or xs k d)) → sum_by g xs ≡ sum_by f xs
sum-agree f g [] d agree = refl
sum-agree f g (x ∷ xs) d agree =
    let here : g x ≡ f x = agree 0 (omega arith) in
    let rest = sum-agree f g xs d (λ k inside. agree (suc k) (omega (arith, inside))) in
    omega (arith, here, rest, sum_by-cons f x xs, sum_by-cons g x xs)

-- all agree but one, which has so much more
pub sum-differs : {X : Type 0} (f g : X → ℕ) (xs : List X) (d : X) (p more : ℕ) → p < length xs → g (get_or xs p d) ≡ f (get_or xs p d) + more
    → ((k : ℕ) → k < length xs → k ≢ p → g (get_or xs k d) ≡ f (get_or xs k d)) → sum_by g xs ≡ sum_by f xs + more
sum-differs f g [] d p more inside gains agree = absurd (omega (arith, inside))
sum-differs f g (x ∷ xs) d zero more inside gains agree =
    let here : g x ≡ f x + more = gains in
    let rest = sum-agree f g xs d (λ k within. agree (suc k) (omega (arith, within)) (λ is. omega (arith, is))) in
    omega (arith, here, rest, sum_by-cons f x xs, sum_by-cons g x xs)
sum-differs f g (x ∷ xs) d (suc p) more inside gains agree =
    let here : g x ≡ f x = agree 0 (omega arith) (λ is. omega (arith, is)) in
    let rest = sum-differs f g xs d p more (omega (arith, inside)) gains (λ k within other. agree (suc k) (omega (arith, within)) (λ is. other (omega (arith, is)))) in
    omega (arith, here, rest, sum_by-cons f x xs, sum_by-cons g x xs)

pub sum-filter : {X : Type 0} (p : X → Bool) (f : X → ℕ) (xs : List X) → sum_by f (filter p xs) ≡ sum_by (λ x. cond (p x) (f x) 0) xs
sum-filter p f [] = refl
sum-filter p f (x ∷ xs) =
    elim (p x) as (λ b. sum_by f (cond b (x ∷ filter p xs) (filter p xs)) ≡ cond b (f x) 0 + sum_by (λ x. cond (p x) (f x) 0) xs)
    [ true ↦ sum_by-cons f x (filter p xs) ∙ ap (λ n. f x + n) (sum-filter p f xs) | false ↦ omega (arith, sum-filter p f xs) ]
    ∙ sym (sum_by-cons (λ x. cond (p x) (f x) 0) x xs)

-- those that pass a test have no more than all
pub sum-part : {X : Type 0} (p : X → Bool) (f : X → ℕ) (xs : List X) → sum_by f (filter p xs) ≤ sum_by f xs
sum-part p f [] = omega arith
sum-part p f (x ∷ xs) =
    let rest = sum-part p f xs in
    let whole = sum_by-cons f x xs in
    elim (p x) as (λ b. sum_by f (cond b (x ∷ filter p xs) (filter p xs)) ≤ sum_by f (x ∷ xs))
    [ true ↦ omega (arith, rest, whole, sum_by-cons f x (filter p xs)) | false ↦ omega (arith, rest, whole) ]
