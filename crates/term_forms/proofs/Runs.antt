-- The bytes at a text's front that pass a test.
use Rattle.std.proofs.Common.{◌≡◌, ℕ, zero, suc, ◌+◌, ◌≤◌, Bool, true, false, cond, List, [], ◌∷◌, ◌++◌, length, take, refl, sym, ◌∙◌, ap, zero-add, arith}
use Rattle.std.specs.List.{list_all, prefix_len}
use Rattle.std.proofs.lemmas.Bool.{and_parts, and_from}

-- the run goes through a text of which each byte passes
pub run_over : (p : ℕ → Bool) (xs ys : List ℕ) → list_all p xs ≡ true → prefix_len p (xs ++ ys) ≡ length xs + prefix_len p ys
run_over p [] ys h = sym (zero-add (prefix_len p ys))
run_over p (x ∷ xs) ys h =
    let parts = and_parts (p x) (list_all p xs) h in
    ap (λ b. cond b (1 + prefix_len p (xs ++ ys)) 0) parts.0 ∙ omega (arith, run_over p xs ys parts.1)

run_passes_first : (p : ℕ → Bool) (x : ℕ) (xs : List ℕ) (n : ℕ) (b : Bool) → p x ≡ b → list_all p (take n xs) ≡ true → list_all p (take (cond b (1 + n) 0) (x ∷ xs)) ≡ true
run_passes_first p x xs n false e h = refl
run_passes_first p x xs n true e h =
    let one : 1 + n ≡ suc n = omega arith in
    ap (λ n. list_all p (take n (x ∷ xs))) one ∙ and_from (p x) (list_all p (take n xs)) e h

-- each byte of the run passes
pub run_passes : (p : ℕ → Bool) (xs : List ℕ) → list_all p (take (prefix_len p xs) xs) ≡ true
run_passes p [] = refl
run_passes p (x ∷ xs) = run_passes_first p x xs (prefix_len p xs) (p x) refl (run_passes p xs)

both_shorter : (b : Bool) (m n : ℕ) → m ≤ n → cond b (1 + m) 0 ≤ cond b (1 + n) 0
both_shorter false m n h = omega arith
both_shorter true m n h = omega (arith, h)

-- a part of the text has no longer run
pub run_shorter : (p : ℕ → Bool) (xs : List ℕ) (n : ℕ) → prefix_len p (take n xs) ≤ prefix_len p xs
run_shorter p xs zero = omega arith
run_shorter p [] (suc n) = omega arith
run_shorter p (x ∷ xs) (suc n) = both_shorter (p x) (prefix_len p (take n xs)) (prefix_len p xs) (run_shorter p xs n)
