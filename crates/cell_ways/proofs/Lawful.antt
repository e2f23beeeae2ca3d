-- The depth of a cell is the least number of steps, and the way to it is a way.
use Rattle.std.proofs.Common.{◌≡◌, ℕ, zero, suc, ◌+◌, ◌<◌, ◌≤◌, Bool, true, ◌&&◌, List, [], ◌∷◌, ◌++◌, length, Option, None, Some, refl, sym, ◌∙◌, ap, ap₂, subst, inl, inr, arith, length-append}
use Rattle.std.specs.Option.{option_map_or}
use Rattle.std.proofs.lemmas.Bool.{cases_lt, eq-eqb, eqb-true, false≢true, and_parts, and_from}
use Rattle.std.proofs.lemmas.Option.{none-some}
use Rattle.cell_graphs.specs.Graphs.{Graph, LeadsWithin}
use Rattle.cell_graphs.specs.Reached.{Reached}
use Rattle.cell_graphs.specs.Reached as reached
use Rattle.cell_graphs.specs.Rounds.{after_rounds, leads_to}
use Rattle.cell_graphs.specs.Laws.Closing.{reached-found}
use Rattle.cell_graphs.specs.Laws.Leading.{leads-from, leads-tested, tested-leads}
use Rattle.cell_ways.specs.Depths.{came_from, depth_of, is_next, way_by, way_to}
use Rattle.cell_ways.specs.Laws.{IsDepth, IsLeastBefore, IsWay, root, step}
use Rattle.cell_ways.proofs.Least.{least-any, least-at, least-found}
use Rattle.cell_ways.proofs.Rounding.{round-late, round-leads, round-led}

pub next-is : (k d : Option ℕ) (depth : ℕ) → d ≡ Some (suc depth) → is_next k d ≡ true → k ≡ Some depth
next-is None d depth is next = absurd (false≢true next)
next-is (Some k) d depth is next =
    let same : suc depth ≡ suc k = eqb-true (suc depth) (suc k) (ap (is_next (Some k)) (sym is) ∙ next) in
    let back : k ≡ depth = omega (arith, same) in
    ap Some back

is-next : (k d : Option ℕ) (depth : ℕ) → k ≡ Some depth → d ≡ Some (suc depth) → is_next k d ≡ true
is-next k d depth is deeper = ap₂ is_next is deeper ∙ eq-eqb (suc depth) (suc depth) refl

module _ (graph : Graph) (begun : ℕ → Bool) where
  abbrev Root : ℕ → Type 0
  Root m = begun m ≡ true

  abbrev found_at : ℕ → ℕ → Bool
  found_at n rounds = after_rounds rounds graph begun n

  abbrev depth : ℕ → Option ℕ
  depth n = depth_of graph begun n

  -- ---- from where a way comes

  abbrev can_come : ℕ → ℕ → Bool
  can_come n m = is_next (depth m) (depth n) && leads_to graph m n

  -- a cell of the depth before leads to a deeper one
  some-before : (k n : ℕ) → depth n ≡ Some (suc k) → (m : ℕ) × (depth m ≡ Some k) × (leads_to graph m n ≡ true)
  some-before k n is =
      let l = least-found (found_at n) (suc (length graph)) (suc k) is in
      let m = round-led graph begun k n l.passes (l.first k (omega arith)) in (
        m.0,
        least-at (found_at m.0) (suc (length graph)) k (omega (arith, l.below)) m.1 (round-late graph begun k m.0 n m.2 l.first),
        m.2,
      )

  -- it is found
  came-before : (k n : ℕ) → depth n ≡ Some (suc k) → (m : ℕ) × (came_from graph begun n ≡ Some m) × IsLeastBefore graph begun k m n
  came-before k n is =
      let some = some-before k n is in
      let inside : some.0 < length graph = leads-from graph some.0 n (tested-leads graph some.0 n some.2) in
      let passes : can_come n some.0 ≡ true = and_from (is_next (depth some.0) (depth n)) (leads_to graph some.0 n) (is-next (depth some.0) (depth n) k some.1 is) some.2 in
      let found = least-any (can_come n) (length graph) some.0 inside passes in
      let l = least-found (can_come n) (length graph) found.0 found.1 in
      let both = and_parts (is_next (depth found.0) (depth n)) (leads_to graph found.0 n) l.passes in (
        found.0,
        found.1,
        record {
          at = next-is (depth found.0) (depth n) k is both.0;
          leads = tested-leads graph found.0 n both.1;
          least = λ other is_at leads.
              not-less found.0 other
              (λ less. false≢true (sym (l.first other less)
              ∙ and_from (is_next (depth other) (depth n)) (leads_to graph other n) (is-next (depth other) (depth n) k is_at is) (leads-tested graph other n leads)));
        },
      )
    where
      not-less : (m other : ℕ) → (other < m → ⊥) → m ≤ other
      not-less m other never = elim (cases_lt other m) [ inl less ↦ absurd (never less) | inr past ↦ past ]

  abbrev way_at : Option ℕ → ℕ → List ℕ
  way_at found n = option_map_or (λ k. way_by (came_from graph begun) k n) found []

  pub way-first : (n : ℕ) → depth n ≡ Some 0 → way_to graph begun n ≡ n ∷ []
  way-first n is = ap (λ o. way_at o n) is

  pub way-later : (k n : ℕ) → depth n ≡ Some (suc k) → (m : ℕ) × IsLeastBefore graph begun k m n × (way_to graph begun n ≡ way_to graph begun m ++ n ∷ [])
  way-later k n is =
      let came = came-before k n is in (
        came.0,
        came.2,
        ap (λ o. way_at o n) is
            ∙ ap (λ o. option_map_or (way_by (came_from graph begun) k) o [] ++ n ∷ []) came.1
            ∙ ap (λ l. l ++ n ∷ []) (sym (ap (λ o. way_at o came.0) came.2.at)),
      )

  pub way-leads : (k n : ℕ) → depth n ≡ Some k → IsWay graph Root (way_to graph begun n) n × (length (way_to graph begun n) ≡ suc k)
  way-leads zero n is =
      let one = way-first n is in
      let l = least-found (found_at n) (suc (length graph)) 0 is in
      (subst (λ w. IsWay graph Root w n) (sym one) (root n l.passes), ap length one)
  way-leads (suc k) n is =
      let later = way-later k n is in
      let before = way-leads k later.0 later.1.at in (
        subst (λ w. IsWay graph Root w n) (sym later.2) (step (way_to graph begun later.0) later.0 n before.0 later.1.leads),
        ap length later.2 ∙ length-append (way_to graph begun later.0) (n ∷ []) ∙ one-more (length (way_to graph begun later.0)) k before.1,
      )
    where
      one-more : (size k : ℕ) → size ≡ suc k → size + 1 ≡ suc (suc k)
      one-more size k is = omega (arith, is)

  -- ---- a way is found by as many rounds as it has steps

  pub way-found : (way : List ℕ) (n : ℕ) → IsWay graph Root way n → (k : ℕ) × (length way ≡ suc k) × (found_at n k ≡ true)
  way-found _ _ (root n is) = (0, refl, is)
  way-found _ _ (step way m n is leads) =
      let before = way-found way m is in (
        suc before.0,
        length-append way (n ∷ []) ∙ one-more (length way) before.0 before.1,
        round-leads graph begun before.0 m n before.2 (leads-tested graph m n leads),
      )
    where
      one-more : (size k : ℕ) → size ≡ suc k → size + 1 ≡ suc (suc k)
      one-more size k is = omega (arith, is)

  way-reached : (way : List ℕ) (n : ℕ) → IsWay graph Root way n → Reached graph Root n
  way-reached _ _ (root n is) = reached.root n is
  way-reached _ _ (step way m n is leads) = reached.step m n (way-reached way m is) leads

  -- no way is shorter than the depth
  way-least : (k n : ℕ) → depth n ≡ Some k → (way : List ℕ) → IsWay graph Root way n → k < length way
  way-least k n is way leads =
      let found = way-found way n leads in
      let l = least-found (found_at n) (suc (length graph)) k is in
      elim (cases_lt found.0 k) [
        | inl less ↦ absurd (false≢true (sym (l.first found.0 less) ∙ found.2))
        | inr past ↦ omega (arith, past, found.1)
      ]

  pub depth-least : (k n : ℕ) → depth n ≡ Some k → IsDepth graph Root k n
  depth-least k n is =
      let leads = way-leads k n is in
      record { way = way_to graph begun n; is = leads.0; steps = leads.1; least = way-least k n is }

  module _ (within : LeadsWithin graph) where
    has-depth : (n : ℕ) → Reached graph Root n → (k : ℕ) × (depth n ≡ Some k)
    has-depth n is = least-any (found_at n) (suc (length graph)) (length graph) (omega arith) (reached-found graph begun within n is)

    pub least-depth : (k n : ℕ) → IsDepth graph Root k n → depth n ≡ Some k
    least-depth k n d =
        let found = has-depth n (way-reached d.way n d.is) in
        let leads = way-leads found.0 n found.1 in
        let same : found.0 ≡ k = omega (arith, way-least found.0 n found.1 d.way d.is, d.steps, d.least (way_to graph begun n) leads.0, leads.1) in
        found.1 ∙ ap Some same

    pub none-unreached : (n : ℕ) → depth n ≡ None → Reached graph Root n → ⊥
    none-unreached n none is = let found = has-depth n is in none-some found.0 (sym none ∙ found.1)

    pub unreached-none : (n : ℕ) → (Reached graph Root n → ⊥) → depth n ≡ None
    unreached-none n never = by (depth n) refl
      where
        by : (o : Option ℕ) → depth n ≡ o → o ≡ None
        by None is = refl
        by (Some k) is = absurd (never (way-reached (way_to graph begun n) n (let leads = way-leads k n is in leads.0)))
