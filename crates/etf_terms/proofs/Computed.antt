-- The text that is computed of the bytes of a term is the term's.
use Rattle.std.proofs.Common.{◌≡◌, ℕ, List, [], ◌∷◌, ◌++◌, drop, refl, sym, ap, ◌∙◌, append_assoc, append-nil}
use Rattle.etf_terms.specs.Heads.{Head, kids}
use Rattle.etf_terms.specs.Laws.{ReadsAll}
use Rattle.etf_terms.specs.Layouts.{Layout, end, byte, IsLaid}
use Rattle.etf_terms.specs.Reading.{heads_from, heads_of, first_terms, first_text, take_terms, terms_of}
use Rattle.etf_terms.specs.Table.{row, head_layout}
use Rattle.etf_terms.specs.Terms.{Term, node, Terms, none, more, count, IsTerm, AreTerms}

-- terms before a list of others
abbrev before : Terms → List Term → List Term
before none others = others
before (more t ts) others = t ∷ before ts others

first_terms-before : (ts : Terms) (others : List Term) → first_terms (count ts) (before ts others) ≡ ts
first_terms-before none others = refl
first_terms-before (more t ts) others = ap (more t) (first_terms-before ts others)

drop-before : (ts : Terms) (others : List Term) → drop (count ts) (before ts others) ≡ others
drop-before none others = refl
drop-before (more t ts) others = drop-before ts others

-- a head and the terms behind it are its term
taken : (h : Head) (ts : Terms) (others : List Term) → count ts ≡ kids h → take_terms h (before ts others) ≡ node h ts ∷ others
taken h ts others e =
    ap (λ n. node h (first_terms n (before ts others)) ∷ drop n (before ts others)) (sym e)
    ∙ ap (λ l. node h l ∷ drop (count ts) (before ts others)) (first_terms-before ts others) ∙ ap (λ l. node h ts ∷ l) (drop-before ts others)

heads-laid : (l : Layout) (front rest : List ℕ) (h : Head) → IsLaid l front h → heads_from l (front ++ rest) ≡ h ∷ heads_of rest
heads-laid (end found) [] [] h p = ap (λ x. x ∷ []) p
heads-laid (end found) [] (b ∷ rest) h p = ap (λ x. x ∷ heads_from (row b) rest) p
heads-laid (end found) (b ∷ front) rest h p = absurd p
heads-laid (byte test next) [] rest h p = absurd p
heads-laid (byte test next) (b ∷ front) rest h p = heads-laid (next b) front rest h p.1

mutual
  terms-term : (t : Term) (front rest : List ℕ) → IsTerm front t → terms_of (heads_of (front ++ rest)) ≡ t ∷ terms_of (heads_of rest)
  terms-term (node h ts) front rest p =
      ap (λ l. terms_of (heads_of (l ++ rest))) p.2 ∙ ap (λ l. terms_of (heads_of l)) (append_assoc p.0 p.1 rest)
      ∙ ap terms_of (heads-laid head_layout p.0 (p.1 ++ rest) h p.3) ∙ ap (take_terms h) (terms-terms ts p.1 rest p.5) ∙ taken h ts (terms_of (heads_of rest)) p.4

  terms-terms : (ts : Terms) (front rest : List ℕ) → AreTerms front ts → terms_of (heads_of (front ++ rest)) ≡ before ts (terms_of (heads_of rest))
  terms-terms none front rest p = ap (λ l. terms_of (heads_of (l ++ rest))) p
  terms-terms (more t ts) front rest p =
      ap (λ l. terms_of (heads_of (l ++ rest))) p.2 ∙ ap (λ l. terms_of (heads_of l)) (append_assoc p.0 p.1 rest)
      ∙ terms-term t p.0 (p.1 ++ rest) p.3 ∙ ap (λ l. t ∷ l) (terms-terms ts p.1 rest p.4)

pub reads-all : ReadsAll
reads-all bytes t p =
    ap (λ l. first_text (terms_of (heads_of (drop 1 l)))) p.1
    ∙ ap (λ l. first_text (terms_of (heads_of l))) (sym (append-nil p.0)) ∙ ap first_text (terms-term t p.0 [] p.2)
