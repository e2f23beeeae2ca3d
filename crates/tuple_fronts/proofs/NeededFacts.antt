-- The cells that are collected, one list behind another.
use Rattle.std.proofs.Common.{◌≡◌, ℕ, ◌+◌, List, [], ◌∷◌, ◌++◌, length, take, min, Some, sym, ◌∙◌, ap, inl, inr, arith, append_assoc, append-nil}
use Rattle.std.specs.Prelude.{flat_map, slice_get}
use Rattle.std.proofs.lemmas.Bool.{cases_lt}
use Rattle.std.proofs.lemmas.List.{take_all}
use Rattle.std.proofs.lemmas.List.Concat.{flat_map-append}
use Rattle.dump_io.specs.Laws.Lists.{take-at}

-- what comes of the next of a list behind what came of those before
pub flat-next : {X : Type 0} (f : X → List ℕ) (xs : List X) (i : ℕ) (x : X) (before now after : List ℕ) → slice_get xs i ≡ Some x → now ≡ before ++ flat_map f (take i xs) → after ≡ now ++ f x
    → after ≡ before ++ flat_map f (take (i + 1) xs)
flat-next f xs i x before now after at now_is after_is =
    after_is
    ∙ ap (λ l. l ++ f x) now_is
    ∙ append_assoc before (flat_map f (take i xs)) (f x)
    ∙ ap (λ l. before ++ l)
    (ap (λ l. flat_map f (take i xs) ++ l) (sym (append-nil (f x)))
    ∙ sym (flat_map-append f (take i xs) (x ∷ []))
    ∙ ap (flat_map f) (sym (take-at xs i x at)))

-- the first of a list, at most 8
pub take-few : {X : Type 0} (xs : List X) (i : ℕ) → i ≡ min (length xs) 8 → take i xs ≡ take 8 xs
take-few xs i is =
    elim (cases_lt 8 (length xs)) [
      | inl many ↦ ap (λ n. take n xs) (let eight : i ≡ 8 = omega (arith, is, many) in eight)
      | inr few ↦ take_all i xs (omega (arith, is, few)) ∙ sym (take_all 8 xs few)
    ]
