-- The first of some terms: its head is read, and behind it stand its own terms and the others.
use Rattle.std.proofs.Common.{◌≡◌, ℕ, suc, List, [], ◌++◌, Ok, Err, refl, sym, ap, ◌∙◌, arith, append_assoc}
use Rattle.etf_terms.specs.Depth.{depth, deepest}
use Rattle.etf_terms.specs.Heads.{Head, kids}
use Rattle.etf_terms.specs.Table.{head_layout}
use Rattle.etf_terms.specs.Terms.{node, Terms, none, more, count, AreTerms}
use Rattle.etf_terms.specs.Inner.Parts.{parsed, head_of}
use Rattle.etf_terms.specs.Inner.Walks.{reading}
use Rattle.etf_terms.proofs.Readings.{laid-reading}
use Rattle.etf_terms.proofs.Joins.{head-is, same-ok, not-err}

pub record First (head : Head) (own others : Terms) (bytes behind : List ℕ) : Type 0 where
  pub front : List ℕ
  pub rest : List ℕ
  pub read : head_of bytes ≡ Ok (head, front ++ (rest ++ behind))
  pub are_own : AreTerms front own
  pub count_own : count own ≡ kids head
  pub are_others : AreTerms rest others

pub regroup : (a b c d : List ℕ) → ((a ++ b) ++ c) ++ d ≡ a ++ (b ++ (c ++ d))
regroup a b c d = append_assoc (a ++ b) c d ∙ append_assoc a b (c ++ d)

pub first-of : (h : Head) (ks us : Terms) (bytes front behind : List ℕ) → bytes ≡ front ++ behind → AreTerms front (more (node h ks) us) → First h ks us bytes behind
first-of h ks us bytes front behind r are =
    let term = are.3 in
    let split : bytes ≡ term.0 ++ (term.1 ++ (are.1 ++ behind)) =
    r ∙ ap (λ l. l ++ behind) are.2 ∙ ap (λ l. (l ++ are.1) ++ behind) term.2 ∙ regroup term.0 term.1 are.1 behind in
    record {
      front = term.1;
      rest = are.1;
      read = sym (head-is bytes) ∙ ap (λ l. parsed (reading head_layout l)) split ∙ ap parsed (laid-reading head_layout term.0 (term.1 ++ (are.1 ++ behind)) h term.3);
      are_own = term.5;
      count_own = term.4;
      are_others = are.4;
    }

-- a head is read in one way
pub same-head : (bytes : List ℕ) (h k : Head) (r s : List ℕ) → head_of bytes ≡ Ok (h, r) → head_of bytes ≡ Ok (k, s) → (h ≡ k) × (r ≡ s)
same-head bytes h k r s p q = same-ok h k r s (sym p ∙ q)

pub not-both : (bytes : List ℕ) (h : Head) (r : List ℕ) (left : ℕ) → head_of bytes ≡ Ok (h, r) → head_of bytes ≡ Err left → ⊥
not-both bytes h r left p q = not-err (h, r) left (sym p ∙ q)

-- ---- a head has terms, or it has none

pub depth-own : (h : Head) (ks : Terms) → (count ks ≡ 0 → ⊥) → depth (node h ks) ≡ suc (deepest ks)
depth-own h none some = absurd (some refl)
depth-own h (more t ts) some = refl

pub depth-leaf : (h : Head) (ks : Terms) → count ks ≡ 0 → depth (node h ks) ≡ 0
depth-leaf h none e = refl
depth-leaf h (more t ts) e = absurd (omega (arith, e))

pub no-terms : (ks : Terms) (bytes : List ℕ) → count ks ≡ 0 → AreTerms bytes ks → bytes ≡ []
no-terms none bytes e are = are
no-terms (more t ts) bytes e are = absurd (omega (arith, e))
