-- Where a walk is lost no byte that stands there can follow, and all before it can be completed.
use Rattle.std.proofs.Common.{◌≡◌, ℕ, zero, suc, ◌+◌, ◌<◌, ◌≤◌, ◌⊎◌, inl, inr, ⊎_elim, Bool, true, false, cond, List, [], ◌∷◌, ◌++◌, length, take, drop, refl, sym, ap, ◌∙◌, subst, append-nil, arith, length-append}
use Rattle.std.proofs.Math.Seq.{take-append_seam}
use Rattle.std.proofs.lemmas.Bool.{cond-true, cond-false}
use Rattle.etf_terms.specs.Heads.{Head, Nil, kids}
use Rattle.etf_terms.specs.Layouts.{Layout, end, byte}
use Rattle.etf_terms.specs.Table.{is_tag, row}
use Rattle.etf_terms.specs.Terms.{Term, node, none, IsTerm, IsExternal}
use Rattle.etf_terms.specs.Place.{Begins, IsPlace}
use Rattle.etf_terms.specs.Walks.{Walked, Done, Lost, walk, walk_terms}
use Rattle.etf_terms.proofs.Readings.{walk-end, walk-first, walk-none}
use Rattle.etf_terms.proofs.Stepping.{Counted, Follows, counted-more, follows-end, follows-byte, done-walk_terms, not-done, same-rest, term-walk, term-is_done, one-of}
use Rattle.etf_terms.proofs.Joins.{Live}
use Rattle.etf_terms.proofs.Completing.{live-head, Begun, complete, complete-terms, nil-is_term}

record LostAt (P : List ℕ → Type 0) (walked : List ℕ → Walked) (bytes rest : List ℕ) : Type 0 where
  taken : List ℕ
  split : bytes ≡ taken ++ rest
  begun : Begun P taken
  -- whatever stands behind
  stuck : (c : ℕ) (tail other : List ℕ) → rest ≡ c ∷ tail → walked (taken ++ c ∷ other) ≡ Lost (c ∷ other)

lost-cond : (t : Bool) (w : Walked) (xs rest : List ℕ) → cond t w (Lost xs) ≡ Lost rest → ((t ≡ true) × (w ≡ Lost rest)) ⊎ ((t ≡ false) × (xs ≡ rest))
lost-cond true w xs rest e = inl (refl, e)
lost-cond false w xs rest e = inr (refl, same-rest xs rest e)

nothing-first : (rest : List ℕ) (c : ℕ) (tail : List ℕ) → [] ≡ rest → rest ≡ c ∷ tail → ⊥
nothing-first rest c tail p q = cc

done-not : (xs ys : List ℕ) → Done xs ≡ Lost ys → ⊥
done-not xs ys e = not-done ys xs (sym e)

same-first : (b c : ℕ) (xs ys rest : List ℕ) → b ∷ xs ≡ rest → rest ≡ c ∷ ys → b ≡ c
same-first b c xs ys rest p q = cc

-- the byte that stands there doesn't pass
refused-here : (test : ℕ → Bool) (w : ℕ → Walked) (b c : ℕ) (bytes tail other rest : List ℕ) → test b ≡ false → b ∷ bytes ≡ rest → rest ≡ c ∷ tail
    → cond (test c) (w c) (Lost (c ∷ other)) ≡ Lost (c ∷ other)
refused-here test w b c bytes tail other rest fails e f =
    let same : b ≡ c = same-first b c bytes tail rest e f in
    cond-false (test c) (w c) (Lost (c ∷ other)) (ap test (sym same) ∙ fails)

-- the same of more, with another walk
lost-as : {P Q : List ℕ → Type 0} {v w : List ℕ → Walked} {bytes rest : List ℕ} → ((l : List ℕ) → P l → Q l) → ((l : List ℕ) → w l ≡ v l)
    → LostAt P v bytes rest → LostAt Q w bytes rest
lost-as same walks lost = record {
  taken = lost.taken;
  split = lost.split;
  begun = record { behind = lost.begun.behind; are_bytes = lost.begun.are_bytes; whole = same (lost.taken ++ lost.begun.behind) lost.begun.whole };
  stuck = λ c tail other f. walks (lost.taken ++ c ∷ other) ∙ lost.stuck c tail other f;
}

lost-none : {P : List ℕ → Type 0} {w : List ℕ → Walked} (rest : List ℕ) → Begun P [] → Lost [] ≡ Lost rest → LostAt P w [] rest
lost-none rest begun e = record { taken = []; split = same-rest [] rest e; begun = begun; stuck = λ c tail other f. absurd (nothing-first rest c tail (same-rest [] rest e) f) }

lost-byte : (test : ℕ → Bool) (next : ℕ → Layout) (n b : ℕ) (bytes rest : List ℕ) → ((l : Layout) (m : ℕ) → Live l → walk l m bytes ≡ Lost rest → LostAt (Follows l m) (walk l m) bytes rest)
    → Live (byte test next) → cond (test b) (walk (next b) n bytes) (Lost (b ∷ bytes)) ≡ Lost rest → LostAt (Follows (byte test next) n) (walk (byte test next) n) (b ∷ bytes) rest
lost-byte test next n b bytes rest later p e =
    ⊎_elim (λ step.
    let over = later (next b) n (p.3 b step.0) step.1 in
    record {
      taken = b ∷ over.taken;
      split = ap (λ l. b ∷ l) over.split;
      begun = record {
        behind = over.begun.behind;
        are_bytes = over.begun.are_bytes;
        whole = follows-byte test next b n (over.taken ++ over.begun.behind) step.0 over.begun.whole;
      };
      stuck = λ c tail other f.
          cond-true (test b) (walk (next b) n (over.taken ++ c ∷ other)) (Lost (b ∷ (over.taken ++ c ∷ other))) step.0 ∙ over.stuck c tail other f;
    })
    (λ step.
    record {
      taken = [];
      split = step.1;
      begun = complete (byte test next) n p;
      stuck = λ c tail other f. refused-here test (λ x. walk (next x) n other) b c bytes tail other rest step.0 step.1 f;
    })
    (lost-cond (test b) (walk (next b) n bytes) (b ∷ bytes) rest e)

lost-terms_end : (n : ℕ) (rest : List ℕ) → walk_terms n [] ≡ Lost rest → LostAt (Counted n) (walk_terms n) [] rest
lost-terms_end zero rest e = absurd (done-not [] rest e)
lost-terms_end (suc n) rest e = lost-none rest (complete-terms (suc n)) e

lost-terms : (n b : ℕ) (bytes rest : List ℕ) → ((l : Layout) (m : ℕ) → Live l → walk l m bytes ≡ Lost rest → LostAt (Follows l m) (walk l m) bytes rest)
    → walk_terms n (b ∷ bytes) ≡ Lost rest → LostAt (Counted n) (walk_terms n) (b ∷ bytes) rest
lost-terms zero b bytes rest later e = absurd (done-not (b ∷ bytes) rest e)
lost-terms (suc n) b bytes rest later e = lost-as (counted-more n) (walk-first n) (lost-byte is_tag row n b bytes rest later live-head e)

lost-end : (h : Head) (n : ℕ) (bytes rest : List ℕ) → LostAt (Counted (kids h + n)) (walk_terms (kids h + n)) bytes rest → LostAt (Follows (end h) n) (walk (end h) n) bytes rest
lost-end h n bytes rest w = lost-as (follows-end h n) (walk-end h n) w

lost-walk : (bytes : List ℕ) (l : Layout) (n : ℕ) (rest : List ℕ) → Live l → walk l n bytes ≡ Lost rest → LostAt (Follows l n) (walk l n) bytes rest
lost-walk [] (end h) n rest p e = lost-end h n [] rest (lost-terms_end (kids h + n) rest e)
lost-walk (b ∷ bytes) (end h) n rest p e =
    lost-end h n (b ∷ bytes) rest (lost-terms (kids h + n) b bytes rest (λ l m live. lost-walk bytes l m rest live) e)
lost-walk [] (byte test next) n rest p e = lost-none rest (complete (byte test next) n p) e
lost-walk (b ∷ bytes) (byte test next) n rest p e = lost-byte test next n b bytes rest (λ l m live. lost-walk bytes l m rest live) p e

lost-walk_terms : (n : ℕ) (bytes rest : List ℕ) → walk_terms n bytes ≡ Lost rest → LostAt (Counted n) (walk_terms n) bytes rest
lost-walk_terms n [] rest e = lost-terms_end n rest e
lost-walk_terms n (b ∷ bytes) rest e = lost-terms n b bytes rest (λ l m live. lost-walk bytes l m rest live) e

-- ---- the place in the whole

-- the bytes before the rest begin a term, and no term goes on with the rest's first byte
pub record Stops (bytes rest : List ℕ) : Type 0 where
  pub taken : List ℕ
  pub split : bytes ≡ taken ++ rest
  pub begun : Begun (Counted 1) taken
  pub stuck : (c : ℕ) (tail other : List ℕ) → rest ≡ c ∷ tail → walk_terms 1 (taken ++ c ∷ other) ≡ Done [] → ⊥

pub stops-lost : (bytes rest : List ℕ) → walk_terms 1 bytes ≡ Lost rest → Stops bytes rest
stops-lost bytes rest e =
    let w = lost-walk_terms 1 bytes rest e in
    record { taken = w.taken; split = w.split; begun = w.begun; stuck = λ c tail other f g. not-done (c ∷ other) [] (sym (w.stuck c tail other f) ∙ g) }

pub done-more : (b : ℕ) (rest : List ℕ) → Done [] ≡ Done (b ∷ rest) → ⊥
done-more b rest e = cc

pub stops-done : (bytes rest : List ℕ) → walk_terms 1 bytes ≡ Done rest → Stops bytes rest
stops-done bytes rest e =
    let w = done-walk_terms 1 bytes rest e in
    let found = one-of w.taken w.over in
    record {
      taken = w.taken;
      split = w.split;
      begun = record { behind = []; are_bytes = tt; whole = subst (Counted 1) (sym (append-nil w.taken)) w.over };
      stuck = λ c tail other f g.
          let over : walk_terms 1 (w.taken ++ c ∷ other) ≡ Done (c ∷ other) = term-walk found.0 w.taken (c ∷ other) 0 found.1 ∙ walk-none (c ∷ other) in
          done-more c other (sym g ∙ over);
    }

-- more of the whole than is taken goes on with the rest's first byte
goes_on : (taken rest behind : List ℕ) (n : ℕ) → length taken < n → n ≤ length (taken ++ rest)
    → (c : ℕ) × (tail : List ℕ) × (other : List ℕ) × (rest ≡ c ∷ tail) × (take n (taken ++ rest) ++ behind ≡ taken ++ c ∷ other)
goes_on [] [] behind n over within = absurd (omega (arith, over, within))
goes_on [] (c ∷ tail) behind zero over within = absurd (omega (arith, over))
goes_on [] (c ∷ tail) behind (suc n) over within = (c, tail, take n tail ++ behind, refl, refl)
goes_on (b ∷ taken) rest behind zero over within = absurd (omega (arith, over))
goes_on (b ∷ taken) rest behind (suc n) over within =
    let later = goes_on taken rest behind n (omega (arith, over)) (omega (arith, within)) in
    (later.0, later.1, later.2, later.3, ap (λ l. b ∷ l) later.4)

behind-first : (x b : ℕ) (xs ys : List ℕ) → b ∷ xs ≡ x ∷ ys → xs ≡ ys
behind-first x b xs ys e = ap (drop 1) e

not-over : (n at : ℕ) → (at < n → ⊥) → n ≤ at
not-over n at h = grind (arith, h)

place-taken : (taken rest : List ℕ) → Begun (Counted 1) taken → ((c : ℕ) (tail other : List ℕ) → rest ≡ c ∷ tail → walk_terms 1 (taken ++ c ∷ other) ≡ Done [] → ⊥)
    → IsPlace (131 ∷ (taken ++ rest)) (suc (length taken))
place-taken taken rest begun stuck =
    let found = one-of (taken ++ begun.behind) begun.whole in
    let begins : Begins (131 ∷ taken) = record { behind = begun.behind; are_bytes = begun.are_bytes; term = found.0; whole = (taken ++ begun.behind, refl, found.1) } in
    record {
      within = let sizes : length (taken ++ rest) ≡ length taken + length rest = length-append taken rest in omega (arith, sizes);
      begins = subst (λ l. Begins (131 ∷ l)) (sym (take-append_seam taken rest)) begins;
      longest = longest;
    } where
      longest : (n : ℕ) (behind : List ℕ) (term : Term) → n ≤ length (131 ∷ (taken ++ rest)) → IsExternal (take n (131 ∷ (taken ++ rest)) ++ behind) term → n ≤ suc (length taken)
      longest zero behind term within whole = omega arith
      longest (suc n) behind term within whole =
          let held : n ≤ length taken = not-over n (length taken) (λ over.
          let g = goes_on taken rest behind n over (omega (arith, within)) in
          let same : whole.0 ≡ taken ++ g.0 ∷ g.2 = sym (behind-first 131 131 (take n (taken ++ rest) ++ behind) whole.0 whole.1) ∙ g.4 in
          stuck g.0 g.1 g.2 g.3 (term-is_done (taken ++ g.0 ∷ g.2) term (subst (λ l. IsTerm l term) same whole.2))) in
          omega (arith, held)

-- where the bytes begin with 131
pub place-of : (bytes rest : List ℕ) (at : ℕ) → Stops bytes rest → at + length rest ≡ suc (length bytes) → IsPlace (131 ∷ bytes) at
place-of bytes rest at s e =
    let sizes : length bytes ≡ length s.taken + length rest = ap length s.split ∙ length-append s.taken rest in
    let place : suc (length s.taken) ≡ at = omega (arith, sizes, e) in
    subst (IsPlace (131 ∷ bytes)) place (subst (λ l. IsPlace (131 ∷ l) (suc (length s.taken))) (sym s.split) (place-taken s.taken rest s.begun s.stuck))

first-is : (b : ℕ) (xs ys : List ℕ) → b ∷ xs ≡ 131 ∷ ys → b ≡ 131
first-is b xs ys e = cc

-- where they don't
pub place-first : (bytes : List ℕ) → ((rest : List ℕ) → bytes ≡ 131 ∷ rest → ⊥) → IsPlace bytes 0
place-first bytes other =
    record {
      within = omega arith;
      begins = record { behind = 131 ∷ 106 ∷ []; are_bytes = (omega arith, (omega arith, tt)); term = node Nil none; whole = (106 ∷ [], refl, nil-is_term) };
      longest = longest bytes other;
    } where
      longest : (bytes : List ℕ) → ((rest : List ℕ) → bytes ≡ 131 ∷ rest → ⊥) → (n : ℕ) (behind : List ℕ) (term : Term) → n ≤ length bytes → IsExternal (take n bytes ++ behind) term → n ≤ 0
      longest [] other n behind term within whole = within
      longest (b ∷ bytes) other zero behind term within whole = omega arith
      longest (b ∷ bytes) other (suc n) behind term within whole =
          absurd (other bytes (ap (λ x. x ∷ bytes) (first-is b (take n bytes ++ behind) whole.0 whole.1)))
