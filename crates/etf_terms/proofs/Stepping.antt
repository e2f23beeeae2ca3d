-- What a walk comes to, in terms.
use Rattle.std.proofs.Common.{◌≡◌, ℕ, zero, suc, ◌+◌, Bool, true, false, cond, List, [], ◌∷◌, ◌++◌, refl, sym, ap, ◌∙◌, subst, append_assoc, append-nil, arith}
use Rattle.etf_terms.specs.Heads.{Head, kids}
use Rattle.etf_terms.specs.Layouts.{Layout, end, byte, IsLaid}
use Rattle.etf_terms.specs.Table.{is_tag, row, head_layout}
use Rattle.etf_terms.specs.Terms.{Term, node, Terms, none, more, count, IsTerm, AreTerms}
use Rattle.etf_terms.specs.Walks.{Walked, Done, Lost, walk, walk_terms}
use Rattle.etf_terms.proofs.Readings.{walk-first, laid-walk}

-- ---- terms are walked over

zero-plus : (n : ℕ) → 0 + n ≡ n
zero-plus n = omega arith

suc-plus : (m n : ℕ) → suc m + n ≡ suc (m + n)
suc-plus m n = omega arith

mutual
  pub term-walk : (t : Term) (front rest : List ℕ) (n : ℕ) → IsTerm front t → walk_terms (suc n) (front ++ rest) ≡ walk_terms n rest
  term-walk (node h ts) front rest n p =
      ap (λ l. walk_terms (suc n) (l ++ rest)) p.2 ∙ ap (walk_terms (suc n)) (append_assoc p.0 p.1 rest)
      ∙ walk-first n (p.0 ++ (p.1 ++ rest)) ∙ laid-walk head_layout p.0 (p.1 ++ rest) h n p.3
      ∙ ap (λ k. walk_terms (k + n) (p.1 ++ rest)) (sym p.4) ∙ terms-walk ts p.1 rest n p.5

  pub terms-walk : (ts : Terms) (front rest : List ℕ) (n : ℕ) → AreTerms front ts → walk_terms (count ts + n) (front ++ rest) ≡ walk_terms n rest
  terms-walk none front rest n p = ap (λ k. walk_terms k (front ++ rest)) (zero-plus n) ∙ ap (λ l. walk_terms n (l ++ rest)) p
  terms-walk (more t ts) front rest n p =
      ap (λ k. walk_terms k (front ++ rest)) (suc-plus (count ts) n)
      ∙ ap (λ l. walk_terms (suc (count ts + n)) (l ++ rest)) p.2 ∙ ap (walk_terms (suc (count ts + n))) (append_assoc p.0 p.1 rest)
      ∙ term-walk t p.0 (p.1 ++ rest) (count ts + n) p.3 ∙ terms-walk ts p.1 rest n p.4

-- ---- terms from their parts

-- so many terms
pub record Counted (n : ℕ) (bytes : List ℕ) : Type 0 where
  pub terms : Terms
  pub count : count terms ≡ n
  pub are : AreTerms bytes terms

-- the rest of a head, the terms that belong to it, and so many more
pub record Follows (l : Layout) (n : ℕ) (bytes : List ℕ) : Type 0 where
  pub front : List ℕ
  pub rest : List ℕ
  pub split : bytes ≡ front ++ rest
  pub head : Head
  pub laid : IsLaid l front head
  pub counted : Counted (kids head + n) rest

pub counted-none : Counted 0 []
counted-none = record { terms = none; count = refl; are = refl }

pub follows-end : (h : Head) (n : ℕ) (bytes : List ℕ) → Counted (kids h + n) bytes → Follows (end h) n bytes
follows-end h n bytes c = record { front = []; rest = bytes; split = refl; head = h; laid = refl; counted = c }

pub follows-byte : (test : ℕ → Bool) (next : ℕ → Layout) (b n : ℕ) (bytes : List ℕ) → test b ≡ true → Follows (next b) n bytes → Follows (byte test next) n (b ∷ bytes)
follows-byte test next b n bytes passes f =
    record { front = b ∷ f.front; rest = f.rest; split = ap (λ l. b ∷ l) f.split; head = f.head; laid = (passes, f.laid); counted = f.counted }

-- the first terms and the others
record Cut (k n : ℕ) (bytes : List ℕ) : Type 0 where
  front : List ℕ
  rest : List ℕ
  split : bytes ≡ front ++ rest
  first : Counted k front
  others : Counted n rest

cut : (k n : ℕ) (ts : Terms) (bytes : List ℕ) → count ts ≡ k + n → AreTerms bytes ts → Cut k n bytes
cut zero n ts bytes e p =
    record { front = []; rest = bytes; split = refl; first = counted-none; others = record { terms = ts; count = e ∙ zero-plus n; are = p } }
cut (suc k) n none bytes e p = absurd (omega (arith, e))
cut (suc k) n (more t ts) bytes e p =
    let less : count ts ≡ k + n = omega (arith, e) in
    let later = cut k n ts p.1 less p.4 in
    record {
      front = p.0 ++ later.front;
      rest = later.rest;
      split = p.2 ∙ ap (λ l. p.0 ++ l) later.split ∙ sym (append_assoc p.0 later.front later.rest);
      first = record { terms = more t later.first.terms; count = ap suc later.first.count; are = (p.0, later.front, refl, p.3, later.first.are) };
      others = later.others;
    }

pub counted-more : (n : ℕ) (bytes : List ℕ) → Follows head_layout n bytes → Counted (suc n) bytes
counted-more n bytes f =
    let parts = cut (kids f.head) n f.counted.terms f.rest f.counted.count f.counted.are in
    let first : IsTerm (f.front ++ parts.front) (node f.head parts.first.terms) = (f.front, parts.front, refl, f.laid, parts.first.count, parts.first.are) in
    record {
      terms = more (node f.head parts.first.terms) parts.others.terms;
      count = ap suc parts.others.count;
      are = (
        f.front ++ parts.front,
        parts.rest,
        f.split ∙ ap (λ l. f.front ++ l) parts.split ∙ sym (append_assoc f.front parts.front parts.rest),
        first,
        parts.others.are,
      );
    }

-- one term
pub one-of : (bytes : List ℕ) → Counted 1 bytes → (t : Term) × IsTerm bytes t
one-of bytes c = one-of-terms c.terms bytes c.count c.are where
  one-of-terms : (ts : Terms) (bytes : List ℕ) → count ts ≡ 1 → AreTerms bytes ts → (t : Term) × IsTerm bytes t
  one-of-terms none bytes e p = absurd (omega (arith, e))
  one-of-terms (more t none) bytes e p =
      (t, subst (λ l. IsTerm l t) (sym (p.2 ∙ ap (λ l. p.0 ++ l) p.4 ∙ append-nil p.0)) p.3)
  one-of-terms (more t (more u us)) bytes e p = absurd (omega (arith, e))

-- ---- what a walk that is done went over

pub record WentOver (P : List ℕ → Type 0) (bytes rest : List ℕ) : Type 0 where
  pub taken : List ℕ
  pub split : bytes ≡ taken ++ rest
  pub over : P taken

pub not-done : (xs ys : List ℕ) → Lost xs ≡ Done ys → ⊥
not-done xs ys e = cc

pub same-rest : (xs ys : List ℕ) → Lost xs ≡ Lost ys → xs ≡ ys
same-rest xs ys e = cc

pub same-done : (xs ys : List ℕ) → Done xs ≡ Done ys → xs ≡ ys
same-done xs ys e = cc

done-cond : (t : Bool) (w : Walked) (xs rest : List ℕ) → cond t w (Lost xs) ≡ Done rest → (t ≡ true) × (w ≡ Done rest)
done-cond true w xs rest e = (refl, e)
done-cond false w xs rest e = absurd (not-done xs rest e)

-- where nothing more is wanted
done-none : (bytes rest : List ℕ) → Done bytes ≡ Done rest → WentOver (Counted 0) bytes rest
done-none bytes rest e = record { taken = []; split = same-done bytes rest e; over = counted-none }

-- the byte in front passes, and the others are gone over
done-byte : (test : ℕ → Bool) (next : ℕ → Layout) (n b : ℕ) (bytes rest : List ℕ) → ((l : Layout) (m : ℕ) → walk l m bytes ≡ Done rest → WentOver (Follows l m) bytes rest)
    → cond (test b) (walk (next b) n bytes) (Lost (b ∷ bytes)) ≡ Done rest → WentOver (Follows (byte test next) n) (b ∷ bytes) rest
done-byte test next n b bytes rest later e =
    let step = done-cond (test b) (walk (next b) n bytes) (b ∷ bytes) rest e in
    let went = later (next b) n step.1 in
    record { taken = b ∷ went.taken; split = ap (λ l. b ∷ l) went.split; over = follows-byte test next b n went.taken step.0 went.over }

done-terms : (n : ℕ) (b : ℕ) (bytes rest : List ℕ) → ((l : Layout) (m : ℕ) → walk l m bytes ≡ Done rest → WentOver (Follows l m) bytes rest)
    → walk_terms n (b ∷ bytes) ≡ Done rest → WentOver (Counted n) (b ∷ bytes) rest
done-terms zero b bytes rest later e = done-none (b ∷ bytes) rest e
done-terms (suc n) b bytes rest later e =
    let went = done-byte is_tag row n b bytes rest later e in record { taken = went.taken; split = went.split; over = counted-more n went.taken went.over }

done-terms_end : (n : ℕ) (rest : List ℕ) → walk_terms n [] ≡ Done rest → WentOver (Counted n) [] rest
done-terms_end zero rest e = done-none [] rest e
done-terms_end (suc n) rest e = absurd (not-done [] rest e)

done-end : (h : Head) (n : ℕ) (bytes rest : List ℕ) → WentOver (Counted (kids h + n)) bytes rest → WentOver (Follows (end h) n) bytes rest
done-end h n bytes rest w = record { taken = w.taken; split = w.split; over = follows-end h n w.taken w.over }

done-walk : (bytes : List ℕ) (l : Layout) (n : ℕ) (rest : List ℕ) → walk l n bytes ≡ Done rest → WentOver (Follows l n) bytes rest
done-walk [] (end h) n rest e = done-end h n [] rest (done-terms_end (kids h + n) rest e)
done-walk (b ∷ bytes) (end h) n rest e =
    done-end h n (b ∷ bytes) rest (done-terms (kids h + n) b bytes rest (λ l m. done-walk bytes l m rest) e)
done-walk [] (byte test next) n rest e = absurd (not-done [] rest e)
done-walk (b ∷ bytes) (byte test next) n rest e = done-byte test next n b bytes rest (λ l m. done-walk bytes l m rest) e

pub done-walk_terms : (n : ℕ) (bytes rest : List ℕ) → walk_terms n bytes ≡ Done rest → WentOver (Counted n) bytes rest
done-walk_terms n [] rest e = done-terms_end n rest e
done-walk_terms n (b ∷ bytes) rest e = done-terms n b bytes rest (λ l m. done-walk bytes l m rest) e

-- ---- the whole

-- the bytes are one term exactly where a walk over one term ends at their end
pub term-is_done : (bytes : List ℕ) (t : Term) → IsTerm bytes t → walk_terms 1 bytes ≡ Done []
term-is_done bytes t p = ap (walk_terms 1) (sym (append-nil bytes)) ∙ term-walk t bytes [] 0 p

pub done-is_term : (bytes : List ℕ) → walk_terms 1 bytes ≡ Done [] → (t : Term) × IsTerm bytes t
done-is_term bytes e =
    let went = done-walk_terms 1 bytes [] e in
    let found = one-of went.taken went.over in
    (found.0, subst (λ l. IsTerm l found.0) (sym (went.split ∙ append-nil went.taken)) found.1)
