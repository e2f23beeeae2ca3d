-- A tree whose gaps are filled looks like the tree, up to its first gap.
use Rattle.std.proofs.Common.{◌≡◌, ◌⊎◌, inl, inr, ℕ, zero, suc, List, [], ◌∷◌, ◌++◌, map, take, Option, None, Some, IsSome, is_some, refl, sym, ◌∙◌, ap, append_assoc, append-nil}
use Rattle.std.specs.Option.{option_or}
use Rattle.std.proofs.lemmas.Bool.{true≢false}
use Rattle.std.proofs.lemmas.List.{take-map, map-append}
use Rattle.term_unfold.specs.declared.verdict.Verdict.{Verdict}
use Rattle.term_unfold.specs.declared.verdict.Verdict.TheVariants as verdicts
use Rattle.term_unfold.specs.Parts.{first_gap}
use Rattle.term_unfold.specs.Places.{is_nil, Face, LeafFace, BadFace, BranchFace}
use Rattle.term_unfold.specs.Terms.{count}
use Rattle.term_unfold.specs.Trees.{Value, Tree, Leaf, Bad, Branch, Trees, none, more, pre, pre_all, first_bad, verdict}
use Rattle.term_unfold.proofs.FirstNodes.{faces, faces_all}

-- ---- a tree whose gaps are filled; a leaf stays, and a bad node may become anything if it is a gap

abbrev mutual
  pub Fills : (Tree → Option ℕ) → (Value → Type 0) → Tree → Tree → Type 0
  Fills gap Is (Leaf v) u = (u ≡ Leaf v) × Is v
  Fills gap Is (Bad a why) u = (u ≡ Bad a why) ⊎ IsSome (gap (Bad a why))
  Fills gap Is (Branch kind ts) u = (us : Trees) × (u ≡ Branch kind us) × FillAll gap Is ts us

  pub FillAll : (Tree → Option ℕ) → (Value → Type 0) → Trees → Trees → Type 0
  FillAll gap Is none none = Unit {0}
  FillAll gap Is (more t ts) (more u us) = Fills gap Is t u × FillAll gap Is ts us
  FillAll gap Is ts us = ⊥

-- ---- without a gap among the first n nodes, these look alike

no-gap : (o p : Option ℕ) → option_or o p ≡ None → (o ≡ None) × (p ≡ None)
no-gap None p h = (refl, h)
no-gap (Some a) p h = let no : Some a ≡ None = h in cc

count-fill : (gap : Tree → Option ℕ) (Is : Value → Type 0) (ts us : Trees) → FillAll gap Is ts us → count ts ≡ count us
count-fill gap Is none none h = refl
count-fill gap Is (more t ts) (more u us) h = ap suc (count-fill gap Is ts us h.1)
count-fill gap Is none (more u us) h = absurd h
count-fill gap Is (more t ts) none h = absurd h

-- the texts of a leaf, where it is no gap
abbrev pub AgreeOn : (Tree → Option ℕ) → (Value → Type 0) → (Value → List ℕ) → (Value → List ℕ) → Type 0
AgreeOn gap Is leaf leaf' = (v : Value) → Is v → gap (Leaf v) ≡ None → leaf v ≡ leaf' v

-- what stands behind looks alike as well
abbrev AgreeBehind : (Tree → Option ℕ) → List Tree → List Face → List Face → Type 0
AgreeBehind gap rest xs ys = (m : ℕ) → first_gap gap (take m rest) ≡ None → take m xs ≡ take m ys

mutual
  tree-alike : (gap : Tree → Option ℕ) (Is : Value → Type 0) (leaf leaf' : Value → List ℕ) (n : ℕ) (t u : Tree) (rest : List Tree) (xs ys : List Face)
      → AgreeOn gap Is leaf leaf' → Fills gap Is t u → first_gap gap (take n (pre t ++ rest)) ≡ None → AgreeBehind gap rest xs ys
      → take n (faces leaf t ++ xs) ≡ take n (faces leaf' u ++ ys)
  tree-alike gap Is leaf leaf' zero t u rest xs ys same fills h behind = refl
  tree-alike gap Is leaf leaf' (suc m) (Leaf v) u rest xs ys same fills h behind =
      let parts = no-gap (gap (Leaf v)) (first_gap gap (take m rest)) h in
      ap (λ l. LeafFace (is_nil v) l ∷ take m xs) (same v fills.1 parts.0) ∙ ap (λ l. LeafFace (is_nil v) (leaf' v) ∷ l) (behind m parts.1)
      ∙ ap (λ w. take (suc m) (faces leaf' w ++ ys)) (sym fills.0)
  tree-alike gap Is leaf leaf' (suc m) (Bad a why) u rest xs ys same (inl is) h behind =
      let parts = no-gap (gap (Bad a why)) (first_gap gap (take m rest)) h in
      ap (λ l. BadFace a why ∷ l) (behind m parts.1) ∙ ap (λ w. take (suc m) (faces leaf' w ++ ys)) (sym is)
  tree-alike gap Is leaf leaf' (suc m) (Bad a why) u rest xs ys same (inr some) h behind =
      let parts = no-gap (gap (Bad a why)) (first_gap gap (take m rest)) h in
      absurd (true≢false (sym some ∙ ap is_some parts.0))
  tree-alike gap Is leaf leaf' (suc m) (Branch kind ts) u rest xs ys same fills h behind =
      let parts = no-gap (gap (Branch kind ts)) (first_gap gap (take m (pre_all ts ++ rest))) h in
      ap (λ size. BranchFace kind size ∷ take m (faces_all leaf ts ++ xs)) (count-fill gap Is ts fills.0 fills.2)
      ∙ ap (λ l. BranchFace kind (count fills.0) ∷ l) (trees-alike gap Is leaf leaf' m ts fills.0 rest xs ys same fills.2 parts.1 behind)
      ∙ ap (λ w. take (suc m) (faces leaf' w ++ ys)) (sym fills.1)

  trees-alike : (gap : Tree → Option ℕ) (Is : Value → Type 0) (leaf leaf' : Value → List ℕ) (n : ℕ) (ts us : Trees) (rest : List Tree) (xs ys : List Face)
      → AgreeOn gap Is leaf leaf' → FillAll gap Is ts us → first_gap gap (take n (pre_all ts ++ rest)) ≡ None → AgreeBehind gap rest xs ys
      → take n (faces_all leaf ts ++ xs) ≡ take n (faces_all leaf' us ++ ys)
  trees-alike gap Is leaf leaf' n none none rest xs ys same fills h behind = behind n h
  trees-alike gap Is leaf leaf' n (more t ts) (more u us) rest xs ys same fills h behind =
      ap (take n) (append_assoc (faces leaf t) (faces_all leaf ts) xs)
      ∙ tree-alike gap Is leaf leaf' n t u (pre_all ts ++ rest) (faces_all leaf ts ++ xs) (faces_all leaf' us ++ ys) same fills.0
      (ap (λ nodes. first_gap gap (take n nodes)) (sym (append_assoc (pre t) (pre_all ts) rest)) ∙ h)
      (λ m clear. trees-alike gap Is leaf leaf' m ts us rest xs ys same fills.1 clear behind)
      ∙ ap (take n) (sym (append_assoc (faces leaf' u) (faces_all leaf' us) ys))
  trees-alike gap Is leaf leaf' n none (more u us) rest xs ys same fills h behind = absurd fills
  trees-alike gap Is leaf leaf' n (more t ts) none rest xs ys same fills h behind = absurd fills

pub alike : (gap : Tree → Option ℕ) (Is : Value → Type 0) (leaf leaf' : Value → List ℕ) (n : ℕ) (t u : Tree) → AgreeOn gap Is leaf leaf' → Fills gap Is t u
    → first_gap gap (take n (pre t)) ≡ None → take n (faces leaf t) ≡ take n (faces leaf' u)
alike gap Is leaf leaf' n t u same fills h =
    ap (take n) (sym (append-nil (faces leaf t)))
    ∙ tree-alike gap Is leaf leaf' n t u [] [] [] same fills (ap (λ nodes. first_gap gap (take n nodes)) (append-nil (pre t)) ∙ h) (λ m clear. refl)
    ∙ ap (take n) (append-nil (faces leaf' u))

-- ---- the verdict is that of the faces

abbrev own_face : (Value → List ℕ) → Tree → Face
own_face leaf (Leaf value) = LeafFace (is_nil value) (leaf value)
own_face leaf (Bad address why) = BadFace address why
own_face leaf (Branch kind children) = BranchFace kind (count children)

abbrev pub bad_face : List Face → Verdict
bad_face [] = verdicts.Clean
bad_face (BadFace address why ∷ rest) = verdicts.Bad address why
bad_face (face ∷ rest) = bad_face rest

mutual
  faces-own : (leaf : Value → List ℕ) (t : Tree) → map (own_face leaf) (pre t) ≡ faces leaf t
  faces-own leaf (Leaf value) = refl
  faces-own leaf (Bad address why) = refl
  faces-own leaf (Branch kind children) = ap (λ l. BranchFace kind (count children) ∷ l) (faces-own_all leaf children)

  faces-own_all : (leaf : Value → List ℕ) (ts : Trees) → map (own_face leaf) (pre_all ts) ≡ faces_all leaf ts
  faces-own_all leaf none = refl
  faces-own_all leaf (more t ts) =
      map-append (own_face leaf) (pre t) (pre_all ts)
      ∙ ap (λ l. l ++ map (own_face leaf) (pre_all ts)) (faces-own leaf t) ∙ ap (λ l. faces leaf t ++ l) (faces-own_all leaf ts)

bad-own : (leaf : Value → List ℕ) (ts : List Tree) → first_bad ts ≡ bad_face (map (own_face leaf) ts)
bad-own leaf [] = refl
bad-own leaf (Leaf value ∷ ts) = bad-own leaf ts
bad-own leaf (Bad address why ∷ ts) = refl
bad-own leaf (Branch kind children ∷ ts) = bad-own leaf ts

pub verdict-faces : (leaf : Value → List ℕ) (t : Tree) (n : ℕ) → verdict t n ≡ bad_face (take n (faces leaf t))
verdict-faces leaf t n =
    bad-own leaf (take n (pre t)) ∙ ap bad_face (sym (take-map (own_face leaf) n (pre t))) ∙ ap (λ l. bad_face (take n l)) (faces-own leaf t)
