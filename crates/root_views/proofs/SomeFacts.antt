-- Some of the elements of a list that more follows.
use Rattle.std.proofs.Common.{◌≡◌, ℕ, zero, suc, ◌-◌, ◌<◌, ◌≤◌, ◌⊎◌, inl, inr, true, false, List, [], ◌∷◌, ◌++◌, length, take, drop, map, if◌then◌else◌, refl, sym, ◌∙◌, ap, arith}
use Rattle.std.specs.Prelude.{◌&&◌, ◌||◌, nat_le, nat_lt}
use Rattle.std.proofs.lemmas.Bool.{false≢true}
use Rattle.std.proofs.lemmas.Bool.Decides.{leb_tells}
use Rattle.std.proofs.lemmas.List.{length-drop, length-take, take-map, drop-map}
use Rattle.root_views.specs.Shown.{some_of}

module _ {X : Type 0} where
  drop-both : (a : ℕ) (xs ys : List X) → drop a (xs ++ ys) ≡ drop a xs ++ drop (a - length xs) ys
  drop-both zero [] ys = refl
  drop-both zero (x ∷ xs) ys = let none : 0 ≡ 0 - length (x ∷ xs) = omega arith in ap (λ n. (x ∷ xs) ++ drop n ys) none
  drop-both (suc a) [] ys = let all : suc a ≡ suc a - length {A = X} [] = omega arith in ap (λ n. drop n ys) all
  drop-both (suc a) (x ∷ xs) ys = let left : a - length xs ≡ suc a - length (x ∷ xs) = omega arith in drop-both a xs ys ∙ ap (λ n. drop a xs ++ drop n ys) left

  take-both : (b : ℕ) (xs ys : List X) → take b (xs ++ ys) ≡ take b xs ++ take (b - length xs) ys
  take-both zero [] ys = refl
  take-both zero (x ∷ xs) ys = let none : 0 ≡ 0 - length (x ∷ xs) = omega arith in ap (λ n. take n ys) none
  take-both (suc b) [] ys = let all : suc b ≡ suc b - length {A = X} [] = omega arith in ap (λ n. take n ys) all
  take-both (suc b) (x ∷ xs) ys = let left : b - length xs ≡ suc b - length (x ∷ xs) = omega arith in ap (λ l. x ∷ l) (take-both b xs ys ∙ ap (λ n. take b xs ++ take n ys) left)

  -- those among the first part, and the others among the second
  pub some-append : (a b : ℕ) (xs ys : List X) → some_of a b (xs ++ ys) ≡ some_of a b xs ++ some_of (a - length xs) (b - length (some_of a b xs)) ys
  some-append a b xs ys =
      let left : b - length (drop a xs) ≡ b - length (some_of a b xs) = omega (arith, length-take b (drop a xs)) in
      ap (take b) (drop-both a xs ys)
      ∙ take-both b (drop a xs) (drop (a - length xs) ys)
      ∙ ap (λ n. some_of a b xs ++ take n (drop (a - length xs) ys)) left

  -- none are left, or none are wanted
  drop-all : (a : ℕ) (xs : List X) → length xs ≤ a → drop a xs ≡ []
  drop-all zero [] few = refl
  drop-all (suc a) [] few = refl
  drop-all zero (x ∷ xs) few = absurd (omega (arith, few))
  drop-all (suc a) (x ∷ xs) few = drop-all a xs (omega (arith, few))

  take-nil : (b : ℕ) → take {A = X} b [] ≡ []
  take-nil zero = refl
  take-nil (suc b) = refl

  pub some-nil : (a b : ℕ) → some_of {X = X} a b [] ≡ []
  some-nil a b = ap (take b) (drop-all a [] (omega arith)) ∙ take-nil b

  pub some-none : (a b : ℕ) (xs : List X) → (nat_le (length xs) a || nat_le b 0) ≡ true → some_of a b xs ≡ []
  some-none a b xs passed = by (leb_tells (length xs) a) (leb_tells b 0)
    where
      by : ((nat_le (length xs) a ≡ true) × (length xs ≤ a)) ⊎ ((nat_le (length xs) a ≡ false) × (a < length xs)) → ((nat_le b 0 ≡ true) × (b ≤ 0)) ⊎ ((nat_le b 0 ≡ false) × (0 < b))
          → some_of a b xs ≡ []
      by (inl few) none = ap (take b) (drop-all a xs few.1) ∙ take-nil b
      by (inr more) (inl none) = let zero_is : b ≡ 0 = omega (arith, none.1) in ap (λ n. take n (drop a xs)) zero_is
      by (inr more) (inr some) = absurd (false≢true (sym (ap (λ c. c || nat_le b 0) more.0 ∙ some.0) ∙ passed))

  one-there : (n m : ℕ) (x : X) → n ≡ 0 → 0 < m → take m (drop n (x ∷ [])) ≡ x ∷ []
  one-there zero zero x is some = absurd (omega (arith, some))
  one-there zero (suc m) x is some = ap (λ l. x ∷ l) (take-nil m)
  one-there (suc n) m x is some = absurd (omega (arith, is))

  pub some-one : (a b : ℕ) (xs : List X) (x : X) → some_of a b (xs ++ x ∷ []) ≡ some_of a b xs ++ (if nat_le a (length xs) && nat_lt (length xs - a) b then x ∷ [] else [])
  some-one a b xs x =
      ap (take b) (drop-both a xs (x ∷ [])) ∙ take-both b (drop a xs) (drop (a - length xs) (x ∷ []))
      ∙ ap (λ l. some_of a b xs ++ l) (by (leb_tells a (length xs)) (leb_tells (suc (length xs - a)) b))
    where
      size : length (drop a xs) ≡ length xs - a
      size = length-drop a xs

      by : ((nat_le a (length xs) ≡ true) × (a ≤ length xs)) ⊎ ((nat_le a (length xs) ≡ false) × (length xs < a))
          → ((nat_lt (length xs - a) b ≡ true) × (suc (length xs - a) ≤ b)) ⊎ ((nat_lt (length xs - a) b ≡ false) × (b < suc (length xs - a)))
          → take (b - length (drop a xs)) (drop (a - length xs) (x ∷ [])) ≡ (if nat_le a (length xs) && nat_lt (length xs - a) b then x ∷ [] else [])
      by (inl low) (inl high) =
          one-there (a - length xs) (b - length (drop a xs)) x (omega (arith, low.1)) (omega (arith, size, high.1))
          ∙ sym (ap (λ c. if c && nat_lt (length xs - a) b then x ∷ [] else []) low.0 ∙ ap (λ c. if c then x ∷ [] else []) high.0)
      by (inl low) (inr past) =
          (let none : b - length (drop a xs) ≡ 0 = omega (arith, size, past.1) in ap (λ n. take n (drop (a - length xs) (x ∷ []))) none)
          ∙ sym (ap (λ c. if c && nat_lt (length xs - a) b then x ∷ [] else []) low.0 ∙ ap (λ c. if c then x ∷ [] else []) past.0)
      by (inr before) any =
          ap (take (b - length (drop a xs))) (drop-all (a - length xs) (x ∷ []) (omega (arith, before.1))) ∙ take-nil (b - length (drop a xs))
          ∙ sym (ap (λ c. if c && nat_lt (length xs - a) b then x ∷ [] else []) before.0)

pub some-map : {X Y : Type 0} (f : X → Y) (a b : ℕ) (xs : List X) → some_of a b (map f xs) ≡ map f (some_of a b xs)
some-map f a b xs = ap (take b) (drop-map f a xs) ∙ take-map f b (drop a xs)
