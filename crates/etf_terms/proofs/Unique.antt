-- The two laws: terms at the front of the same bytes are one.
use Rattle.std.proofs.Common.{◌≡◌, ℕ, suc, List, [], ◌++◌, refl, sym, ap, ap₂, ◌∙◌, append_assoc, append-nil, arith}
use Rattle.etf_terms.specs.Heads.{kids}
use Rattle.etf_terms.specs.Table.{head_layout}
use Rattle.etf_terms.specs.Terms.{Term, node, Terms, none, more, count, IsTerm, AreTerms}
use Rattle.etf_terms.specs.Laws.{IsUnique, IsPrefixFree}
use Rattle.etf_terms.proofs.Readings.{one-head}

suc-one : (m n : ℕ) → suc m ≡ suc n → m ≡ n
suc-one m n e = omega arith

parts : (f r a b g s c d : List ℕ) → f ≡ a ++ b → g ≡ c ++ d → f ++ r ≡ g ++ s → a ++ (b ++ r) ≡ c ++ (d ++ s)
parts f r a b g s c d p q e =
    sym (append_assoc a b r) ∙ ap (λ l. l ++ r) (sym p) ∙ e ∙ ap (λ l. l ++ s) q ∙ append_assoc c d s

mutual
  pub one-term : (t u : Term) (f g r s : List ℕ) → IsTerm f t → IsTerm g u → f ++ r ≡ g ++ s → (t ≡ u) × (r ≡ s)
  one-term (node h ts) (node k us) f g r s p q e =
      let heads = one-head head_layout p.0 q.0 (p.1 ++ r) (q.1 ++ s) h k p.3 q.3 (parts f r p.0 p.1 g s q.0 q.1 p.2 q.2 e) in
      let terms = one-terms ts us p.1 q.1 r s p.5 q.5 (p.4 ∙ ap kids heads.0 ∙ sym q.4) heads.1 in
      (ap₂ node heads.0 terms.0, terms.1)

  pub one-terms : (ts us : Terms) (f g r s : List ℕ) → AreTerms f ts → AreTerms g us → count ts ≡ count us → f ++ r ≡ g ++ s → (ts ≡ us) × (r ≡ s)
  one-terms none none f g r s p q n e = (refl, ap (λ l. l ++ r) (sym p) ∙ e ∙ ap (λ l. l ++ s) q)
  one-terms none (more u us) f g r s p q n e = absurd (omega arith)
  one-terms (more t ts) none f g r s p q n e = absurd (omega arith)
  one-terms (more t ts) (more u us) f g r s p q n e =
      let first = one-term t u p.0 q.0 (p.1 ++ r) (q.1 ++ s) p.3 q.3 (parts f r p.0 p.1 g s q.0 q.1 p.2 q.2 e) in
      let others = one-terms ts us p.1 q.1 r s p.4 q.4 (suc-one (count ts) (count us) n) first.1 in
      (ap₂ more first.0 others.0, others.1)

pub unique : IsUnique
unique bytes one other p q = (one-term one other bytes bytes [] [] p q refl).0

pub prefix_free : IsPrefixFree
prefix_free bytes behind one other p q = (one-term one other bytes (bytes ++ behind) behind [] p q (sym (append-nil (bytes ++ behind)))).1
