-- What a layout begins can be completed.
use Rattle.std.proofs.Common.{◌≡◌, ℕ, zero, suc, ◌+◌, ◌<◌, ◌==◌, Bool, true, false, cond, List, [], ◌∷◌, ◌++◌, Option, Some, unwrap_or, refl, sym, ap, subst, arith}
use Rattle.std.specs.List.{AllByRecursion}
use Rattle.etf_terms.specs.Heads.{Head, Small, Int, Atom, Tuple, Nil, Chars, Linked, Bin, Pairs, kids}
use Rattle.etf_terms.specs.Layouts.{Layout, end, byte, IsLaid}
use Rattle.etf_terms.specs.Table.{is_tag, row, head_layout}
use Rattle.etf_terms.specs.Terms.{node, none, more, IsTerm}
use Rattle.etf_terms.proofs.Joins.{Live, IsLive, any-joins, number4-joins, sized1-joins, sized2-joins, sized4-joins, pid_with-joins, float-joins, bits-joins, port_with-joins, port120-joins, ref_with-joins, small_big-joins, large_big-joins, closure-joins, export-joins}
use Rattle.etf_terms.proofs.Stepping.{Counted, counted-none, Follows, follows-end, follows-byte}

live-end : (h : Head) → IsLive (end h)
live-end h = record { is = tt }

live-found : (t : Bool) (k : Layout) (others : Option Layout) → IsLive k → IsLive (unwrap_or others (end Nil)) → IsLive (unwrap_or (cond t (Some k) others) (end Nil))
live-found true k others p q = p
live-found false k others p q = q

live-row : (tag : ℕ) → IsLive (row tag)
unfolding row
live-row tag =
    live-found (tag == 70) _ _ (float-joins.live end live-end)
    (live-found (tag == 77) _ _ (bits-joins.live end live-end)
    (live-found (tag == 88) _ _ ((pid_with-joins true).live end live-end)
    (live-found (tag == 89) _ _ ((port_with-joins true).live end live-end)
    (live-found (tag == 90) _ _ ((ref_with-joins true).live end live-end)
    (live-found (tag == 97) _ _ (any-joins.live _ (λ x. live-end (Small x)))
    (live-found (tag == 98) _ _ (number4-joins.live _ (λ x. live-end (Int x)))
    (live-found (tag == 100) _ _ (sized2-joins.live _ (λ x. live-end (Atom x)))
    (live-found (tag == 102) _ _ ((port_with-joins false).live end live-end)
    (live-found (tag == 103) _ _ ((pid_with-joins false).live end live-end)
    (live-found (tag == 104) _ _ (any-joins.live _ (λ x. live-end (Tuple x)))
    (live-found (tag == 105) _ _ (number4-joins.live _ (λ x. live-end (Tuple x)))
    (live-found (tag == 106) _ _ (live-end Nil)
    (live-found (tag == 107) _ _ (sized2-joins.live _ (λ x. live-end (Chars x)))
    (live-found (tag == 108) _ _ (number4-joins.live _ (λ x. live-end (Linked x)))
    (live-found (tag == 109) _ _ (sized4-joins.live _ (λ x. live-end (Bin x)))
    (live-found (tag == 110) _ _ (small_big-joins.live end live-end)
    (live-found (tag == 111) _ _ (large_big-joins.live end live-end)
    (live-found (tag == 112) _ _ (closure-joins.live end live-end)
    (live-found (tag == 113) _ _ (export-joins.live end live-end)
    (live-found (tag == 114) _ _ ((ref_with-joins false).live end live-end)
    (live-found (tag == 115) _ _ (sized1-joins.live _ (λ x. live-end (Atom x)))
    (live-found (tag == 116) _ _ (number4-joins.live _ (λ x. live-end (Pairs x)))
    (live-found (tag == 118) _ _ (sized2-joins.live _ (λ x. live-end (Atom x)))
    (live-found (tag == 119) _ _ (sized1-joins.live _ (λ x. live-end (Atom x)))
    (live-found (tag == 120) _ _ (port120-joins.live end live-end) (live-end Nil))))))))))))))))))))))))))

nil-tag : is_tag 106 ≡ true
unfolding is_tag
nil-tag = refl

nil-row : row 106 ≡ end Nil
unfolding row
nil-row = refl

pub live-head : Live head_layout
live-head = (106, omega arith, nil-tag, λ tag _. (live-row tag).is)

-- ---- completions

-- more bytes, with which the whole is so
pub record Begun (P : List ℕ → Type 0) (bytes : List ℕ) : Type 0 where
  pub behind : List ℕ
  pub are_bytes : AllByRecursion (λ b. b < 256) behind
  pub whole : P (bytes ++ behind)

nil-is_laid : IsLaid head_layout (106 ∷ []) Nil
nil-is_laid = (nil-tag, subst (λ l. IsLaid l [] Nil) (sym nil-row) refl)

pub nil-is_term : IsTerm (106 ∷ []) (node Nil none)
nil-is_term = (106 ∷ [], [], refl, nil-is_laid, refl, refl)

-- as many empty lists
pub complete-terms : (n : ℕ) → Begun (Counted n) []
complete-terms zero = record { behind = []; are_bytes = tt; whole = counted-none }
complete-terms (suc n) =
    let later = complete-terms n in
    record {
      behind = 106 ∷ later.behind;
      are_bytes = (omega arith, later.are_bytes);
      whole = record { terms = more (node Nil none) later.whole.terms; count = ap suc later.whole.count; are = (106 ∷ [], later.behind, refl, nil-is_term, later.whole.are) };
    }

pub complete : (l : Layout) (n : ℕ) → Live l → Begun (Follows l n) []
complete (end h) n p =
    let terms = complete-terms (kids h + n) in
    record { behind = terms.behind; are_bytes = terms.are_bytes; whole = follows-end h n terms.behind terms.whole }
complete (byte test next) n p =
    let later = complete (next p.0) n (p.3 p.0 p.2) in
    record { behind = p.0 ∷ later.behind; are_bytes = (p.1, later.are_bytes); whole = follows-byte test next p.0 n later.behind p.2 later.whole }
