-- Lists in general: elements that pass a test, what stands at a place, and a list that more follows.
use Rattle.std.proofs.Common.{◌≡◌, ℕ, zero, suc, ◌+◌, ◌-◌, ◌<◌, ◌≤◌, Bool, true, false, cond, ltb, not, List, [], ◌∷◌, ◌++◌, length, map, get_or, slice_get, Option, None, Some, refl, sym, ◌∙◌, ap, subst, length-drop, arith}
use Rattle.std.specs.Prelude.{All, IfSome, ◌||◌, drop, filter, nat_lt, replicate, slice_range, take, unwrap_or}
use Rattle.std.specs.List.{AllByRecursion, between, cons_option, enumerate_from, filter_map, list_all, list_any, position, position_or_len}
use Rattle.std.specs.Option.{option_to_list}
use Rattle.std.proofs.Math.Seq.{drop-append_seam, take-length}
use Rattle.std.proofs.lemmas.Bool.{lt-ltb, le-ltb, and_parts, and_from, or_parts}
use Rattle.std.proofs.lemmas.List.{drop-append-le, take-append-le, length-map, take_more, drop_more}
use Rattle.std.proofs.lemmas.List.Elements.{All-nil, All-cons, All-head, All-tail}
use Rattle.std.proofs.lemmas.List.Sums.{position_or_len_is}
use Rattle.std.proofs.lemmas.Option.{get_or_from_slice_get, slice_get-get_or, slice_get_within, unwrap_or-slice_get}
use Rattle.dump_io.specs.Laws.Options.{below-bound}

-- an element that passes, where none before it does
pub position-at : {X : Type 0} (p : X → Bool) (xs : List X) (d : X) (i : ℕ) (x : X) → ((k : ℕ) → k < i → p (get_or xs k d) ≡ false) → slice_get xs i ≡ Some x → p x ≡ true
    → position p xs ≡ Some i
position-at p xs d i x before at passes =
    let inside : i < length xs = slice_get_within xs i x at in
    let here : position_or_len p xs ≡ i = position_or_len_is p xs i d (omega arith) before (λ _. ap p (get_or_from_slice_get xs i x d at) ∙ passes) in
    ap (λ n. cond (ltb n (length xs)) (Some n) None) here ∙ ap (λ b. cond b (Some i) None) (lt-ltb i (length xs) inside)

-- none passes
pub position-none : {X : Type 0} (p : X → Bool) (xs : List X) → All (λ x. p x ≡ false) xs → position p xs ≡ None
position-none p [] none = refl
position-none p (x ∷ xs) none =
    let size = length (x ∷ xs) in
    let past : position_or_len p (x ∷ xs) ≡ size = position_or_len_is p (x ∷ xs) size x (omega arith) (λ k inside. none k x inside) (λ inside. absurd (omega arith)) in
    ap (λ n. cond (ltb n size) (Some n) None) past ∙ ap (λ b. cond b (Some size) None) (le-ltb size size (omega arith))

-- the first that passes is one of them
pub position-within : {X : Type 0} (p : X → Bool) (xs : List X) → IfSome (position p xs) (λ i. i < length xs)
position-within p xs = let n = position_or_len p xs in below-bound n (length xs) (nat_lt n (length xs)) refl

-- the first element whose image passes
position_or_len-map : {X Y : Type 0} (p : Y → Bool) (f : X → Y) (xs : List X) → position_or_len p (map f xs) ≡ position_or_len (λ x. p (f x)) xs
position_or_len-map p f [] = refl
position_or_len-map p f (x ∷ xs) = ap (λ n. cond (not (p (f x))) (1 + n) 0) (position_or_len-map p f xs)

pub position-map : {X Y : Type 0} (p : Y → Bool) (f : X → Y) (xs : List X) → position p (map f xs) ≡ position (λ x. p (f x)) xs
position-map p f xs = grind (arith, position_or_len-map, length-map)

-- whether an image passes
pub list_any-map : {X Y : Type 0} (p : Y → Bool) (f : X → Y) (xs : List X) → list_any p (map f xs) ≡ list_any (λ x. p (f x)) xs
list_any-map p f [] = refl
list_any-map p f (x ∷ xs) = ap (λ b. p (f x) || b) (list_any-map p f xs)

-- what passes one test passes another
pub list_all-weaker : {X : Type 0} (p q : X → Bool) → ((x : X) → p x ≡ true → q x ≡ true) → (xs : List X) → list_all p xs ≡ true → list_all q xs ≡ true
list_all-weaker p q also [] all = refl
list_all-weaker p q also (x ∷ xs) all =
    let parts = and_parts (p x) (list_all p xs) all in
    and_from (q x) (list_all q xs) (also x parts.0) (list_all-weaker p q also xs parts.1)

-- a test that all pass keeps all, and one that none passes keeps none
pub filter-all : {X : Type 0} (p : X → Bool) (xs : List X) → All (λ x. p x ≡ true) xs → filter p xs ≡ xs
filter-all p [] all = refl
filter-all p (x ∷ xs) all =
    ap (λ b. cond b (x ∷ filter p xs) (filter p xs)) (All-head (λ x. p x ≡ true) x xs all)
    ∙ ap (λ l. x ∷ l) (filter-all p xs (All-tail (λ x. p x ≡ true) x xs all))

pub filter-none : {X : Type 0} (p : X → Bool) (xs : List X) → All (λ x. p x ≡ false) xs → filter p xs ≡ []
filter-none p [] all = refl
filter-none p (x ∷ xs) all =
    ap (λ b. cond b (x ∷ filter p xs) (filter p xs)) (All-head (λ x. p x ≡ false) x xs all)
    ∙ filter-none p xs (All-tail (λ x. p x ≡ false) x xs all)

-- what holds of each image holds of what it is of
pub All-images : {X Y : Type 0} (P : Y → Type 0) (f : X → Y) (xs : List X) → All P (map f xs) → All (λ x. P (f x)) xs
All-images P f [] all = All-nil (λ x. P (f x))
All-images P f (x ∷ xs) all =
    All-cons (λ x. P (f x)) x xs (All-head P (f x) (map f xs) all) (All-images P f xs (All-tail P (f x) (map f xs) all))

-- what holds of each element holds of the one at a place
pub All-at : {X : Type 0} (P : X → Type 0) (xs : List X) (i : ℕ) (x : X) → All P xs → slice_get xs i ≡ Some x → P x
All-at P xs i x all is = subst P (get_or_from_slice_get xs i x x is) (all i x (slice_get_within xs i x is))

-- what stands at a place is what is there, whatever stands past the end
pub slice_get-there : {X : Type 0} (xs : List X) (i : ℕ) (past : X) → i < length xs → slice_get xs i ≡ Some (unwrap_or (slice_get xs i) past)
slice_get-there xs i past inside = slice_get-get_or xs i past inside ∙ ap Some (sym (unwrap_or-slice_get xs i past))

-- the elements before the next place, and those from a place on
pub take-at : {X : Type 0} (xs : List X) (i : ℕ) (x : X) → slice_get xs i ≡ Some x → take (i + 1) xs ≡ take i xs ++ x ∷ []
take-at xs i x is = take_more xs i x (slice_get_within xs i x is) ∙ ap (λ y. take i xs ++ y ∷ []) (get_or_from_slice_get xs i x x is)

pub drop-at : {X : Type 0} (xs : List X) (i : ℕ) (x : X) → slice_get xs i ≡ Some x → drop i xs ≡ x ∷ drop (i + 1) xs
drop-at xs i x is = drop_more xs i x (slice_get_within xs i x is) ∙ ap (λ y. y ∷ drop (i + 1) xs) (get_or_from_slice_get xs i x x is)

-- a part of a list stays when more follows the list
pub between-grown : {X : Type 0} (xs more : List X) (from upto : ℕ) → from ≤ upto → upto ≤ length xs → between from upto (xs ++ more) ≡ between from upto xs
between-grown xs more from upto ordered within = grind (arith, drop-append-le, take-append-le, length-drop)

-- what follows a list, as a part of both
pub range-last : {X : Type 0} (xs more : List X) → slice_range (xs ++ more) (length xs) (length xs + length more) ≡ more
range-last xs more =
    let size : length xs + length more - length xs ≡ length more = omega arith in
    ap (take (length xs + length more - length xs)) (drop-append_seam xs more) ∙ ap (λ n. take n more) size ∙ take-length more

-- the element at a place, and what is behind it
pub drop-next : {X : Type 0} (xs : List X) (i : ℕ) (x : X) (rest : List X) → drop i xs ≡ x ∷ rest → (slice_get xs i ≡ Some x) × (drop (suc i) xs ≡ rest)
drop-next [] zero x rest is = let no : [] ≡ x ∷ rest = is in cc
drop-next [] (suc i) x rest is = let no : [] ≡ x ∷ rest = is in cc
drop-next (y ∷ ys) zero x rest is = let same : y ∷ ys ≡ x ∷ rest = is in let first : y ≡ x = cc in let later : ys ≡ rest = cc in (ap Some first, later)
drop-next (y ∷ ys) (suc i) x rest is = drop-next ys i x rest is

-- the numbered elements, with one more
pub enumerate-push : {X : Type 0} (n : ℕ) (xs : List X) (x : X) → enumerate_from n (xs ++ x ∷ []) ≡ enumerate_from n xs ++ (n + length xs, x) ∷ []
enumerate-push n [] x = let here : n ≡ n + 0 = omega arith in ap (λ m. (m, x) ∷ []) here
enumerate-push n (y ∷ xs) x =
    let there : n + 1 + length xs ≡ n + length (y ∷ xs) = omega arith in
    ap (λ l. (n, y) ∷ l) (enumerate-push (n + 1) xs x ∙ ap (λ m. enumerate_from (n + 1) xs ++ (m, x) ∷ []) there)

-- the numbered element at a place
pub enumerate-at : {X : Type 0} (n : ℕ) (xs : List X) (i : ℕ) (x : X) → slice_get xs i ≡ Some x → slice_get (enumerate_from n xs) i ≡ Some (n + i, x)
enumerate-at n [] i x is = cc
enumerate-at n (y ∷ xs) zero x is = grind arith
enumerate-at n (y ∷ xs) (suc i) x is = grind (arith, enumerate-at (n + 1) xs i x is)

-- what is made of one element
pub filter_map-one : {X Y : Type 0} (h : X → Option Y) (x : X) → filter_map h (x ∷ []) ≡ option_to_list (h x)
filter_map-one {Y = Y} h x = of (h x)
  where
    of : (o : Option Y) → cons_option o [] ≡ option_to_list o
    of None = refl
    of (Some y) = refl

-- if none passes, each fails
pub none_passes : {X : Type 0} (p : X → Bool) (xs : List X) → list_any p xs ≡ false → AllByRecursion (λ y. p y ≡ false) xs
none_passes p [] none = tt
none_passes p (x ∷ xs) none = let parts = or_parts (p x) (list_any p xs) none in (parts.0, none_passes p xs parts.1)

-- a list of tests none of which was passed
pub none-on : (size n : ℕ) → get_or (replicate size false) n false ≡ false
none-on zero zero = refl
none-on zero (suc n) = refl
none-on (suc size) zero = refl
none-on (suc size) (suc n) = none-on size n

-- two tests that imply each other
pub same-bools : (x y : Bool) → (x ≡ true → y ≡ true) → (y ≡ true → x ≡ true) → x ≡ y
same-bools true y one other = sym (one refl)
same-bools false true one other = other refl
same-bools false false one other = refl
