-- Laws, each with its proof, for the proofs of callers: what holds of elements
-- with their places, and what one element more adds to a list made of these.
use Rattle.std.proofs.Common.{◌≡◌, ℕ, ◌+◌, List, [], ◌∷◌, ◌++◌, length, take, Option, Some, ◌∙◌, ap, arith}
use Rattle.std.specs.Prelude.{All, flat_map, slice_get}
use Rattle.std.specs.List.{enumerate_from, filter_map}
use Rattle.std.specs.Option.{option_to_list}
use Rattle.std.proofs.lemmas.List.{length-take-le, append-nil}
use Rattle.std.proofs.lemmas.List.Elements.{All-nil, All-cons, All-head, All-tail, filter_map-append}
use Rattle.std.proofs.lemmas.Grind.{flat_map-append}
use Rattle.std.proofs.lemmas.Option.{slice_get_within}
use Rattle.dump_io.specs.Laws.Lists.{enumerate-push, filter_map-one, take-at}

-- what holds of each element holds of each with its place
pub all-numbered : {X : Type 0} (P : X → Type 0) (n : ℕ) (xs : List X) → All P xs → All (λ p. P p.1) (enumerate_from n xs)
all-numbered P n [] all = All-nil (λ p. P p.1)
all-numbered P n (x ∷ xs) all =
    All-cons (λ p. P p.1) (n, x) (enumerate_from (n + 1) xs) (All-head P x xs all) (all-numbered P (n + 1) xs (All-tail P x xs all))

-- one element more
numbered-more : {X : Type 0} (xs : List X) (i : ℕ) (x : X) → slice_get xs i ≡ Some x → enumerate_from 0 (take (i + 1) xs) ≡ enumerate_from 0 (take i xs) ++ (i, x) ∷ []
numbered-more xs i x h =
    let size : 0 + length (take i xs) ≡ i = omega (arith, length-take-le i xs (omega (arith, slice_get_within xs i x h))) in
    ap (enumerate_from 0) (take-at xs i x h)
    ∙ enumerate-push 0 (take i xs) x
    ∙ ap (λ n. enumerate_from 0 (take i xs) ++ (n, x) ∷ []) size

-- where each element gives something or nothing
pub told-at : {X Y : Type 0} (h : ℕ × X → Option Y) (xs : List X) (i : ℕ) (x : X) → slice_get xs i ≡ Some x
    → filter_map h (enumerate_from 0 (take (i + 1) xs)) ≡ filter_map h (enumerate_from 0 (take i xs)) ++ option_to_list (h (i, x))
told-at h xs i x e =
    ap (filter_map h) (numbered-more xs i x e)
    ∙ filter_map-append h (enumerate_from 0 (take i xs)) ((i, x) ∷ [])
    ∙ ap (λ l. filter_map h (enumerate_from 0 (take i xs)) ++ l) (filter_map-one h (i, x))

-- where each gives a list
pub all-at : {X Y : Type 0} (f : ℕ × X → List Y) (xs : List X) (i : ℕ) (x : X) → slice_get xs i ≡ Some x
    → flat_map f (enumerate_from 0 (take (i + 1) xs)) ≡ flat_map f (enumerate_from 0 (take i xs)) ++ f (i, x)
all-at f xs i x e =
    ap (flat_map f) (numbered-more xs i x e)
    ∙ flat_map-append f (enumerate_from 0 (take i xs)) ((i, x) ∷ [])
    ∙ ap (λ l. flat_map f (enumerate_from 0 (take i xs)) ++ l) (append-nil (f (i, x)))
