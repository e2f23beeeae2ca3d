-- Sums of what sets of cells weigh that have none in common.
use Rattle.std.proofs.Common.{◌≡◌, ℕ, zero, suc, ◌+◌, ◌*◌, ◌<◌, ◌≤◌, ◌^◌, ltb, Bool, true, false, List, [], ◌∷◌, ◌++◌, length, get_or, take, refl, sym, ◌∙◌, ap, arith, inl, inr}
use Rattle.std.specs.Prelude.{◌&&◌}
use Rattle.std.proofs.Math.Path.{fun_ext}
use Rattle.std.proofs.Math.Seq.{take-suc}
use Rattle.std.proofs.lemmas.List.{take_all}
use Rattle.std.proofs.lemmas.Bool.{cases_order, eq-eqb, le-ltb, lt-ltb, ne_eqb}
use Rattle.cell_graphs.specs.Counts.{count_below, one_if}
use Rattle.cell_graphs.specs.Laws.Closing.{count-most}
use Rattle.heap_graph.specs.Binaries.{binary_at}
use Rattle.heap_graph.specs.Words.{words_at}
use Rattle.heap_weights.specs.declared.holders.Holder.{Holder}
use Rattle.heap_weights.specs.declared.holders.Holder.TheVariants.{Nobody, Several, Part}
use Rattle.heap_weights.specs.declared.shares.Weight.{Weight}
use Rattle.heap_weights.specs.Holders.{is_held, label_of}
use Rattle.heap_weights.specs.Shares.{is_same, weight_below, weight_of, weights_from, words_below, words_if}
use Rattle.heap_weights.specs.Inner.Tallies.{all_of, sum_of}

-- ---- a list of weights

all-behind : (first : Weight) (weights : List Weight) (weight : Weight) → all_of first (weights ++ weight ∷ []) ≡ sum_of (all_of first weights) weight
all-behind first [] weight = refl
all-behind first (w ∷ weights) weight = all-behind (sum_of first w) weights weight

pub all-next : (first : Weight) (weights : List Weight) (place : ℕ) (all new d : Weight) → place < length weights → all ≡ all_of first (take place weights)
    → new ≡ sum_of all (get_or weights place d) → new ≡ all_of first (take (place + 1) weights)
all-next first weights place all new d less was is =
    let next : suc place ≡ place + 1 = omega arith in
    is
    ∙ ap (λ w. sum_of w (get_or weights place d)) was
    ∙ sym (all-behind first (take place weights) (get_or weights place d))
    ∙ ap (all_of first) (sym (take-suc weights place d less))
    ∙ ap (λ n. all_of first (take n weights)) next

pub all-added : (first : Weight) (weights : List Weight) (place : ℕ) (all : Weight) → length weights ≤ place → all ≡ all_of first (take place weights) → all ≡ all_of first weights
all-added first weights place all less was = was ∙ ap (all_of first) (take_all place weights less)

-- ---- one cell

-- it is in one of two sets exactly if it is in the third, and never in both
abbrev IsOneOf : Bool → Bool → Bool → Type 0
IsOneOf a b c = one_if a + one_if b ≡ one_if c

one-words : (a b c : Bool) (words : ℕ) → IsOneOf a b c → words_if a words + words_if b words ≡ words_if c words
one-words true true true words is = absurd (omega (arith, is))
one-words true true false words is = absurd (omega (arith, is))
one-words true false true words is = omega arith
one-words true false false words is = absurd (omega (arith, is))
one-words false true true words is = omega arith
one-words false true false words is = absurd (omega (arith, is))
one-words false false true words is = absurd (omega (arith, is))
one-words false false false words is = omega arith

one-and : (a b : Bool) → one_if (a && b) ≡ words_if a (one_if b)
one-and true b = refl
one-and false b = refl

one-binary : (a b c binary : Bool) → IsOneOf a b c → IsOneOf (a && binary) (b && binary) (c && binary)
one-binary a b c binary is = omega (arith, one-and a binary, one-and b binary, one-and c binary, one-words a b c (one_if binary) is)

-- ---- two sets of cells

count-joined : (a b c : ℕ → Bool) → ((k : ℕ) → IsOneOf (a k) (b k) (c k)) → (n : ℕ) → count_below a n + count_below b n ≡ count_below c n
count-joined a b c each zero = refl
count-joined a b c each (suc n) = let before = count-joined a b c each n in omega (arith, before, each n)

words-joined : (words : List ℕ) (a b c : ℕ → Bool) → ((k : ℕ) → IsOneOf (a k) (b k) (c k)) → (n : ℕ) → words_below words a n + words_below words b n ≡ words_below words c n
words-joined words a b c each zero = refl
words-joined words a b c each (suc n) =
    let before = words-joined words a b c each n in
    let here = one-words (a n) (b n) (c n) (words_at words n) (each n) in
    omega (arith, before, here)

pub weight-same : (a b e c d f : ℕ) → a ≡ c → b ≡ d → e ≡ f → (let w : Weight = record { cells = a; words = b; binaries = e } in w) ≡ record { cells = c; words = d; binaries = f }
weight-same a b e c d f cells words binaries =
    ap (λ k. record { cells = k; words = b; binaries = e }) cells
    ∙ ap (λ k. record { cells = c; words = k; binaries = e }) words
    ∙ ap (λ k. record { cells = c; words = d; binaries = k }) binaries

module _ (words : List ℕ) (binaries : List Bool) (n : ℕ) (few : n < 2 ^ 32) (small : (set : ℕ → Bool) → words_below words set n ≤ n * 2 ^ 64) where
  weights-joined : (a b c : ℕ → Bool) → ((k : ℕ) → IsOneOf (a k) (b k) (c k)) → sum_of (weight_below words binaries a n) (weight_below words binaries b n) ≡ weight_below words binaries c n
  weights-joined a b c each =
      let found : (ℕ → Bool) → ℕ → Bool = λ set k. set k && binary_at binaries k in
      weight-same _ _ _ _ _ _ (omega (arith, few, count-joined a b c each n, count-most c n)) (omega (arith, few, words-joined words a b c each n, small c))
      (omega (arith, few, count-joined (found a) (found b) (found c) (λ k. one-binary (a k) (b k) (c k) (binary_at binaries k) (each k)) n, count-most (found c) n))

  -- ---- the cells of all parts

  -- whether several hold it, or one of so many parts
  abbrev is_among : ℕ → Holder → Bool
  is_among parts Nobody = false
  is_among parts Several = true
  is_among parts (Part part) = ltb part parts

  among-none : (holder : Holder) → is_same Several holder ≡ is_among 0 holder
  among-none Nobody = ne_eqb 1 0 (λ same. omega (arith, same))
  among-none Several = refl
  among-none (Part part) = ne_eqb 1 (part + 2) (λ same. omega (arith, same)) ∙ sym (le-ltb part 0 (omega arith))

  among-more : (parts : ℕ) (holder : Holder) → IsOneOf (is_among parts holder) (is_same (Part parts) holder) (is_among (suc parts) holder)
  among-more parts Nobody = let other = ap one_if (ne_eqb (parts + 2) 0 (λ same. omega (arith, same))) in omega (arith, other)
  among-more parts Several = let other = ap one_if (ne_eqb (parts + 2) 1 (λ same. omega (arith, same))) in omega (arith, other)
  among-more parts (Part part) =
      elim (cases_order part parts) [
        | inl same ↦
            let a = ap one_if (le-ltb part parts (omega (arith, same))) in
            let b = ap one_if (eq-eqb (parts + 2) (part + 2) (omega (arith, same))) in
            let c = ap one_if (lt-ltb part (suc parts) (omega (arith, same))) in
            omega (arith, a, b, c)
        | inr (inl before) ↦
            let a = ap one_if (lt-ltb part parts before) in
            let b = ap one_if (ne_eqb (parts + 2) (part + 2) (λ same. omega (arith, same, before))) in
            let c = ap one_if (lt-ltb part (suc parts) (omega (arith, before))) in
            omega (arith, a, b, c)
        | inr (inr past) ↦
            let a = ap one_if (le-ltb part parts (omega (arith, past))) in
            let b = ap one_if (ne_eqb (parts + 2) (part + 2) (λ same. omega (arith, same, past))) in
            let c = ap one_if (le-ltb part (suc parts) (omega (arith, past))) in
            omega (arith, a, b, c)
      ]

  among-all : (parts : ℕ) (holder : Holder) → label_of holder < parts + 2 → is_among parts holder ≡ is_held holder
  among-all parts Nobody known = refl
  among-all parts Several known = refl
  among-all parts (Part part) known = lt-ltb part parts (omega (arith, known))

  held-or-not : (holder : Holder) → IsOneOf (is_held holder) (is_same Nobody holder) true
  held-or-not Nobody = refl
  held-or-not Several = ap (λ b. 1 + one_if b) (ne_eqb 0 1 (λ same. omega (arith, same)))
  held-or-not (Part part) = ap (λ b. 1 + one_if b) (ne_eqb 0 (part + 2) (λ same. omega (arith, same)))

  module _ (holders : ℕ → Holder) where
    parts-joined : (part count : ℕ) (first : Weight) → first ≡ weight_below words binaries (λ k. is_among part (holders k)) n
        → all_of first (weights_from part words binaries holders n count) ≡ weight_below words binaries (λ k. is_among (part + count) (holders k)) n
    parts-joined part zero first is = is ∙ ap (λ p. weight_below words binaries (λ k. is_among p (holders k)) n) (let same : part ≡ part + 0 = omega arith in same)
    parts-joined part (suc count) first is =
        parts-joined (suc part) count (sum_of first (weight_of words binaries holders (Part part) n))
        (ap (λ w. sum_of w (weight_of words binaries holders (Part part) n)) is
        ∙ weights-joined (λ k. is_among part (holders k)) (λ k. is_same (Part part) (holders k)) (λ k. is_among (suc part) (holders k)) (λ k. among-more part (holders k)))
        ∙ ap (λ p. weight_below words binaries (λ k. is_among p (holders k)) n) (let same : suc part + count ≡ part + suc count = omega arith in same)

    -- what the parts hold alone and what they share is what they reach
    pub all-reached : (parts : ℕ) → ((k : ℕ) → label_of (holders k) < parts + 2)
        → all_of (weight_of words binaries holders Several n) (weights_from 0 words binaries holders n parts) ≡ weight_below words binaries (λ k. is_held (holders k)) n
    all-reached parts known =
        parts-joined 0 parts (weight_of words binaries holders Several n) (ap (λ set. weight_below words binaries set n) (fun_ext (λ k. among-none (holders k))))
        ∙ ap (λ p. weight_below words binaries (λ k. is_among p (holders k)) n) (let same : 0 + parts ≡ parts = omega arith in same)
        ∙ ap (λ set. weight_below words binaries set n) (fun_ext (λ k. among-all parts (holders k) (known k)))

    -- what they reach and what nobody holds is all
    pub all-own : sum_of (weight_below words binaries (λ k. is_held (holders k)) n) (weight_of words binaries holders Nobody n) ≡ weight_below words binaries (λ k. true) n
    all-own = weights-joined (λ k. is_held (holders k)) (λ k. is_same Nobody (holders k)) (λ k. true) (λ k. held-or-not (holders k))
