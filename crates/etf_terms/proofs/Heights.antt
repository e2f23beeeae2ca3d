-- How many heads are open at once, step by step.
use Rattle.std.proofs.Common.{◌≡◌, ℕ, suc, ◌+◌, ◌-◌, ◌≤◌, ◌==◌, ◌⊎◌, ⊎_elim, Bool, true, false, cond, max, List, [], ◌∷◌, ◌++◌, length, Ok, Err, refl, sym, ap, ◌∙◌, subst, arith, append-nil, length-append}
use Rattle.std.proofs.lemmas.Bool.{true≢false}
use Rattle.std.proofs.lemmas.Bool.Decides.{eqb_tells}
use Rattle.etf_terms.specs.Depth.{depth, deepest}
use Rattle.etf_terms.specs.Heads.{Head, kids}
use Rattle.etf_terms.specs.Layouts.{IsLaid}
use Rattle.etf_terms.specs.Table.{head_layout}
use Rattle.etf_terms.specs.Terms.{Term, node, Terms, none, more, count, IsTerm, AreTerms}
use Rattle.etf_terms.specs.Inner.Awaiting.{opened, Awaits, Goes}
use Rattle.etf_terms.specs.Inner.Parts.{head_of}
use Rattle.etf_terms.proofs.Firsts.{depth-own, depth-leaf, no-terms, first-of, same-head, not-both}

-- ---- a term is no deeper than it has bytes

laid-some : (front : List ℕ) (h : Head) → IsLaid head_layout front h → 1 ≤ length front
laid-some [] h p = absurd p
laid-some (b ∷ front) h p = omega arith

mutual
  pub depth-few : (t : Term) (bytes : List ℕ) → IsTerm bytes t → depth t ≤ length bytes
  depth-few (node h none) bytes p = omega arith
  depth-few (node h (more t ts)) bytes p =
      let sizes : length bytes ≡ length p.0 + length p.1 = ap length p.2 ∙ length-append p.0 p.1 in
      omega (arith, sizes, laid-some p.0 h p.3, deepest-few (more t ts) p.1 p.5)

  pub deepest-few : (ts : Terms) (bytes : List ℕ) → AreTerms bytes ts → deepest ts ≤ length bytes
  deepest-few none bytes p = omega arith
  deepest-few (more t ts) bytes p =
      let sizes : length bytes ≡ length p.0 + length p.1 = ap length p.2 ∙ length-append p.0 p.1 in
      omega (arith, sizes, depth-few t p.0 p.3, deepest-few ts p.1 p.4)

-- ---- a head that wants no more

pub closes-one : (n : ℕ) (ns rest : List ℕ) (most : ℕ) → n ≡ 0 → Awaits (n ∷ ns) rest most → Goes (suc (length ns)) most ns rest
closes-one n ns rest most ended (none, front, behind, below, r, are, counts, m, s) =
    record { later = below; awaits = subst (λ l. Awaits ns l below) (sym (r ∙ ap (λ l. l ++ behind) are)) s; reaches = omega (arith, m) }
closes-one n ns rest most ended (more u us, front, behind, below, r, are, counts, m, s) = absurd (omega (arith, ended, counts))

-- ---- a head that wants one more

pub opened-few : (n : ℕ) (counts : List ℕ) → length (opened n counts) ≤ suc (length counts)
opened-few n counts = few (n == 0) where
  few : (t : Bool) → length (cond t counts (n ∷ counts)) ≤ suc (length counts)
  few true = omega arith
  few false = omega arith

-- a head that was read has terms, or it has none
opens-by : (t : Bool) (h : Head) (ks us : Terms) (m : ℕ) (ns own others behind : List ℕ) (most below : ℕ)
    → ((t ≡ true) × (kids h ≡ 0)) ⊎ ((t ≡ false) × (kids h ≡ 0 → ⊥)) → AreTerms own ks → count ks ≡ kids h → AreTerms others us → count us ≡ m
    → most ≡ max (suc (length ns) + max (depth (node h ks)) (deepest us)) below → Awaits ns behind below
    → Goes (suc (length ns)) most (cond t (m ∷ ns) (kids h ∷ m ∷ ns)) (own ++ (others ++ behind))
opens-by true h ks us m ns own others behind most below is are_own count_own are_others left m_is s =
    let leaf : kids h ≡ 0 = ⊎_elim (λ p. p.1) (λ p. absurd (true≢false p.0)) is in
    let none_own = count_own ∙ leaf in
    let wide = suc (length ns) in
    let later = max (wide + deepest us) below in
    let most_is : most ≡ later = omega (arith, m_is, depth-leaf h ks none_own) in
    record {
      later = later;
      awaits = subst (λ l. Awaits (m ∷ ns) (l ++ (others ++ behind)) later) (sym (no-terms ks own none_own are_own))
          (us, others, behind, below, refl, are_others, left, refl, s);
      reaches = omega (arith, most_is);
    }
opens-by false h ks us m ns own others behind most below is are_own count_own are_others left m_is s =
    let some : kids h ≡ 0 → ⊥ = ⊎_elim (λ p. absurd (true≢false (sym p.0))) (λ p. p.1) is in
    let wide = suc (length ns) in
    let deep = depth-own h ks (λ e. some (sym count_own ∙ e)) in
    let most_is : most ≡ max (suc wide + deepest ks) (max (wide + deepest us) below) = omega (arith, m_is, deep) in
    record {
      later = most;
      awaits = (
        ks,
        own,
        others ++ behind,
        max (wide + deepest us) below,
        refl,
        are_own,
        count_own,
        most_is,
        (us, others, behind, below, refl, are_others, left, refl, s),
      );
      reaches = omega (arith, most_is);
    }

pub opens-one : (n : ℕ) (ns rest : List ℕ) (most : ℕ) (h : Head) (after : List ℕ) → (n ≡ 0 → ⊥) → head_of rest ≡ Ok (h, after) → Awaits (n ∷ ns) rest most
    → Goes (suc (length ns)) most (opened (kids h) ((n - 1) ∷ ns)) after
opens-one n ns rest most h after wants read (none, front, behind, below, r, are, counts, m, s) = absurd (wants (sym counts))
opens-one n ns rest most h after wants read (more (node k ks) us, front, behind, below, r, are, counts, m, s) =
    let f = first-of k ks us rest front behind r are in
    let same = same-head rest k h (f.front ++ (f.rest ++ behind)) after f.read read in
    let left : count us ≡ n - 1 = omega (arith, counts) in
    subst (λ x. Goes (suc (length ns)) most (opened (kids x) ((n - 1) ∷ ns)) after) same.0
    (subst (Goes (suc (length ns)) most (opened (kids k) ((n - 1) ∷ ns))) same.1
    (opens-by (kids k == 0) k ks us (n - 1) ns f.front f.rest behind most below (eqb_tells (kids k) 0) f.are_own f.count_own f.are_others left m s))

pub off-none : (n : ℕ) (ns rest : List ℕ) (most left : ℕ) → (n ≡ 0 → ⊥) → head_of rest ≡ Err left → Awaits (n ∷ ns) rest most → ⊥
off-none n ns rest most left wants off (none, front, behind, below, r, are, counts, m, s) = wants (sym counts)
off-none n ns rest most left wants off (more (node k ks) us, front, behind, below, r, are, counts, m, s) =
    let f = first-of k ks us rest front behind r are in
    not-both rest k (f.front ++ (f.rest ++ behind)) left f.read off

-- ---- the whole

pub awaits-whole : (t : Term) (bytes : List ℕ) → IsTerm bytes t → Awaits (1 ∷ []) bytes (suc (depth t))
awaits-whole t bytes p =
    let same : suc (depth t) ≡ max (1 + max (depth t) 0) 0 = omega arith in
    (more t none, bytes, [], 0, sym (append-nil bytes), (bytes, [], sym (append-nil bytes), p, refl), refl, same, (refl, refl))

-- the most so far and later, after one step more
pub most-on : (so_far wide most now later all : ℕ) → wide ≤ so_far → max wide most ≡ max wide (max now later) → max so_far most ≡ all → max (max so_far now) later ≡ all
most-on so_far wide most now later all within step sum = omega (arith, within, step, sum)
