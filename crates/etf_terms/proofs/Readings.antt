-- What is laid out is read, and what is read is laid out so.
use Rattle.std.proofs.Common.{◌≡◌, ℕ, zero, suc, ◌+◌, Bool, true, false, cond, List, [], ◌∷◌, ◌++◌, refl, sym, ap, ◌∙◌}
use Rattle.std.proofs.lemmas.Bool.{cond-true}
use Rattle.etf_terms.specs.Heads.{Head, kids}
use Rattle.etf_terms.specs.Layouts.{Layout, end, byte, IsLaid}
use Rattle.etf_terms.specs.Table.{head_layout}
use Rattle.etf_terms.specs.Inner.Walks.{Reading, Got, Off, reading}
use Rattle.etf_terms.specs.Walks.{Walked, Done, Lost, walk, walk_terms}

-- ---- readings

pub laid-reading : (l : Layout) (front rest : List ℕ) (h : Head) → IsLaid l front h → reading l (front ++ rest) ≡ Got h rest
laid-reading (end g) [] rest h p = ap (λ x. Got x rest) p
laid-reading (end g) (b ∷ front) rest h p = absurd p
laid-reading (byte test next) [] rest h p = absurd p
laid-reading (byte test next) (b ∷ front) rest h p =
    cond-true (test b) (reading (next b) (front ++ rest)) (Off (b ∷ (front ++ rest))) p.0 ∙ laid-reading (next b) front rest h p.1

-- two heads at the front of the same bytes are one
pub one-head : (l : Layout) (f g r s : List ℕ) (h k : Head) → IsLaid l f h → IsLaid l g k → f ++ r ≡ g ++ s → (h ≡ k) × (r ≡ s)
one-head l f g r s h k p q e =
    let same : Got h r ≡ Got k s = sym (laid-reading l f r h p) ∙ ap (reading l) e ∙ laid-reading l g s k q in
    (cc, cc)

-- ---- walks

pub walk-end : (h : Head) (n : ℕ) (rest : List ℕ) → walk (end h) n rest ≡ walk_terms (kids h + n) rest
walk-end h n [] = refl
walk-end h n (b ∷ rest) = refl

pub walk-first : (n : ℕ) (bytes : List ℕ) → walk_terms (suc n) bytes ≡ walk head_layout n bytes
walk-first n bytes = refl

pub walk-none : (bytes : List ℕ) → walk_terms zero bytes ≡ Done bytes
walk-none bytes = refl

pub laid-walk : (l : Layout) (front rest : List ℕ) (h : Head) (n : ℕ) → IsLaid l front h → walk l n (front ++ rest) ≡ walk_terms (kids h + n) rest
laid-walk (end g) [] rest h n p = walk-end g n rest ∙ ap (λ x. walk_terms (kids x + n) rest) p
laid-walk (end g) (b ∷ front) rest h n p = absurd p
laid-walk (byte test next) [] rest h n p = absurd p
laid-walk (byte test next) (b ∷ front) rest h n p =
    cond-true (test b) (walk (next b) n (front ++ rest)) (Lost (b ∷ (front ++ rest))) p.0 ∙ laid-walk (next b) front rest h n p.1

-- a walk goes on from what a reading comes to
abbrev pub walk_on : ℕ → Reading → Walked
walk_on n (Got h rest) = walk_terms (kids h + n) rest
walk_on n (Off rest) = Lost rest

walk_on-cond : (n : ℕ) (t : Bool) (a b : Reading) (x y : Walked) → x ≡ walk_on n a → y ≡ walk_on n b → cond t x y ≡ walk_on n (cond t a b)
walk_on-cond n true a b x y p q = p
walk_on-cond n false a b x y p q = q

pub walk-reading : (l : Layout) (n : ℕ) (bytes : List ℕ) → walk l n bytes ≡ walk_on n (reading l bytes)
walk-reading (end h) n bytes = walk-end h n bytes
walk-reading (byte test next) n [] = refl
walk-reading (byte test next) n (b ∷ bytes) =
    walk_on-cond n (test b) (reading (next b) bytes) (Off (b ∷ bytes)) (walk (next b) n bytes) (Lost (b ∷ bytes)) (walk-reading (next b) n bytes) refl
