-- From the cells of one depth to those of the next.
use Rattle.std.proofs.Common.{◌≡◌, ℕ, suc, ◌+◌, ◌<◌, ◌≤◌, ◌==◌, Bool, true, false, ◌&&◌, ◌||◌, List, [], ◌∷◌, ◌++◌, length, drop, take, ◌-◌, Option, None, Some, refl, sym, ◌∙◌, ap, subst, inl, inr, arith}
use Rattle.std.specs.Prelude.{All, is_none}
use Rattle.std.specs.List.{list_any}
use Rattle.std.proofs.Math.Seq.{drop-append_seam, take-add}
use Rattle.std.proofs.lemmas.Bool.{eq-eqb, eqb-true, ne_eqb, false≢true, or_cases, or_left, or_right}
use Rattle.std.proofs.lemmas.List.Elements.{All-append}
use Rattle.std.proofs.lemmas.List.{drop-append-le, drop-drop, length-drop, take-append-le, take_all}
use Rattle.std.proofs.lemmas.List.Folds.{list_any-append}
use Rattle.std.proofs.lemmas.Option.{none-some}
use Rattle.dump_io.specs.Laws.Lists.{same-bools}
use Rattle.cell_graphs.specs.Frontiers.{is_on}
use Rattle.cell_graphs.specs.Graphs.{Graph}
use Rattle.cell_graphs.specs.Rounds.{after_rounds, leads_to}
use Rattle.cell_graphs.specs.Laws.Leading.{leads-from, tested-leads}
use Rattle.cell_ways.specs.Depths.{least_below}
use Rattle.cell_ways.specs.Ways.{at_cell}
use Rattle.cell_ways.specs.declared.search.Search.{Search}
use Rattle.cell_ways.specs.Inner.Search.{is_depth, is_led_by, or_given, AreDepths, Finds, IsSearched}
use Rattle.cell_ways.proofs.Least.{least-at, least-found, least-none}
use Rattle.cell_ways.proofs.Rounding.{round-late, round-leads, round-led}

-- ---- members of a list

any-member : (test : ℕ → Bool) (xs : List ℕ) (m : ℕ) → is_on m xs ≡ true → test m ≡ true → list_any test xs ≡ true
any-member test [] m on passes = absurd (false≢true on)
any-member test (x ∷ xs) m on passes =
    elim (or_cases (m == x) (is_on m xs) on) [
      | inl here ↦ or_left (test x) (list_any test xs) (subst (λ k. test k ≡ true) (eqb-true m x here) passes)
      | inr later ↦ or_right (test x) (list_any test xs) (any-member test xs m later passes)
    ]

member-any : (test : ℕ → Bool) (xs : List ℕ) → list_any test xs ≡ true → (m : ℕ) × (is_on m xs ≡ true) × (test m ≡ true)
member-any test [] is = absurd (false≢true is)
member-any test (x ∷ xs) is =
    elim (or_cases (test x) (list_any test xs) is) [
      | inl here ↦ (x, or_left (x == x) (is_on x xs) (eq-eqb x x refl), here)
      | inr later ↦ let r = member-any test xs later in (r.0, or_right (r.0 == x) (is_on r.0 xs) r.1, r.2)
    ]

-- ---- the cells in the queue

-- of those of one depth some more
pub led-more : (graph : Graph) (queue : List ℕ) (from place next n : ℕ) → from ≤ place → place ≤ next
    → is_led_by graph (take (next - from) (drop from queue)) n
    ≡ (is_led_by graph (take (place - from) (drop from queue)) n || is_led_by graph (take (next - place) (drop place queue)) n)
led-more graph queue from place next n behind later =
    let both : next - from ≡ (place - from) + (next - place) = omega (arith, behind, later) in
    let back : from + (place - from) ≡ place = omega (arith, behind) in
    ap (λ i. is_led_by graph (take i (drop from queue)) n) both
    ∙ ap (λ cells. is_led_by graph cells n) (take-add (place - from) (next - place) (drop from queue))
    ∙ list_any-append (λ m. leads_to graph m n) (take (place - from) (drop from queue)) (take (next - place) (drop (place - from) (drop from queue)))
    ∙ ap (λ q. is_led_by graph (take (place - from) (drop from queue)) n || is_led_by graph (take (next - place) q) n)
    (drop-drop (place - from) from queue ∙ ap (λ i. drop i queue) back)

-- all of them
pub led-all : (graph : Graph) (queue : List ℕ) (from place n : ℕ) → from ≤ place → length queue ≤ place
    → is_led_by graph (drop from queue) n ≡ is_led_by graph (take (place - from) (drop from queue)) n
led-all graph queue from place n past all =
    ap (λ cells. is_led_by graph cells n) (sym (take_all (place - from) (drop from queue) (omega (arith, past, all, length-drop from queue))))

-- what stands in the queue from one place up to another stays there
pub queue-part : (a b : Search) (depth place next : ℕ) (which : ℕ → Bool) → place ≤ next → next ≤ length a.queue.items → Finds a b depth which
    → take (next - place) (drop place b.queue.items) ≡ take (next - place) (drop place a.queue.items)
queue-part a b depth place next which later inside finds =
    ap (λ q. take (next - place) (drop place q)) finds.queue
    ∙ ap (take (next - place)) (drop-append-le place a.queue.items finds.found (omega (arith, later, inside)))
    ∙ take-append-le (next - place) (drop place a.queue.items) finds.found (omega (arith, later, inside, length-drop place a.queue.items))

-- ---- depths

pub depth-is : (depth : ℕ) (found : Option ℕ) → is_depth depth found ≡ true → found ≡ Some depth
depth-is depth None is = absurd (false≢true is)
depth-is depth (Some d) is = ap Some (eqb-true d depth is)

pub is-depth : (depth : ℕ) (found : Option ℕ) → found ≡ Some depth → is_depth depth found ≡ true
is-depth depth found is = ap (is_depth depth) is ∙ eq-eqb depth depth refl

-- a cell has the next depth exactly if it is given it
pub given-depth : (depth : ℕ) (b : Bool) (before : Option ℕ) → ((d : ℕ) → before ≡ Some d → d < depth) → (b && is_none before) ≡ is_depth depth (or_given depth b before)
given-depth depth true None less = sym (eq-eqb depth depth refl)
given-depth depth false None less = refl
given-depth depth b (Some d) less = and-false b ∙ sym (ne_eqb d depth (λ same. absurd (omega (arith, same, less d refl))))
  where
    and-false : (b : Bool) → (b && false) ≡ false
    and-false true = refl
    and-false false = refl

module _ (graph : Graph) (begun : ℕ → Bool) where
  abbrev found_at : ℕ → ℕ → Bool
  found_at n rounds = after_rounds rounds graph begun n

  -- a cell that has this depth so far was found by so many rounds
  had-depth : (k n : ℕ) → least_below (found_at n) (suc k) ≡ Some k → found_at n k ≡ true
  had-depth k n is = let l = least-found (found_at n) (suc k) k is in l.passes

  module _ (s : Search) (from depth : ℕ) (was : IsSearched graph begun s from depth) where
    abbrev level : List ℕ
    level = drop from s.queue.items

    -- the cells of one depth lead to those that the next round finds
    led-found : (n : ℕ) → least_below (found_at n) (suc depth) ≡ None → is_led_by graph level n ≡ found_at n (suc depth)
    led-found n none =
        same-bools (is_led_by graph level n) (found_at n (suc depth))
        (λ led.
        let m = member-any (λ k. leads_to graph k n) level led in
        let inside : m.0 < length graph = leads-from graph m.0 n (tested-leads graph m.0 n m.2) in
        let at : at_cell s.depths.items m.0 ≡ Some depth = depth-is depth (at_cell s.depths.items m.0) (sym (was.last m.0 inside) ∙ m.1) in
        round-leads graph begun depth m.0 n (had-depth depth m.0 (sym (was.depths m.0 inside) ∙ at)) m.2)
        (λ now.
        let late : (j : ℕ) → j < suc depth → found_at n j ≡ false = least-none (found_at n) (suc depth) none in
        let m = round-led graph begun depth n now (late depth (omega arith)) in
        let inside : m.0 < length graph = leads-from graph m.0 n (tested-leads graph m.0 n m.2) in
        let first : least_below (found_at m.0) (suc depth) ≡ Some depth = least-at (found_at m.0) (suc depth) depth (omega arith) m.1 (round-late graph begun depth m.0 n m.2 late) in
        any-member (λ k. leads_to graph k n) level m.0 (was.last m.0 inside ∙ is-depth depth (at_cell s.depths.items m.0) (was.depths m.0 inside ∙ first)) m.2)

    next-depth : (n : ℕ) (o : Option ℕ) → least_below (found_at n) (suc depth) ≡ o → or_given (suc depth) (is_led_by graph level n) o ≡ or_given (suc depth) (found_at n (suc depth)) o
    next-depth n None none = ap (λ b. or_given (suc depth) b None) (led-found n none)
    next-depth n (Some d) is = refl

    -- one depth more
    pub searched-next : (s' : Search) → Finds s s' (suc depth) (is_led_by graph level) → IsSearched graph begun s' (length s.queue.items) (suc depth)
    searched-next s' finds =
        let each : (n : ℕ) → n < length graph → at_cell s'.depths.items n ≡ or_given (suc depth) (is_led_by graph level n) (least_below (found_at n) (suc depth)) =
        λ n inside. finds.gives.each n (omega (arith, inside, was.size)) ∙ ap (or_given (suc depth) (is_led_by graph level n)) (was.depths n inside) in record {
          size = finds.gives.size ∙ was.size;
          depths = λ n inside. each n inside ∙ next-depth n (least_below (found_at n) (suc depth)) refl;
          queue = subst (All (λ n. n < length graph)) (sym finds.queue)
              (All-append (λ n. n < length graph) s.queue.items finds.found was.queue (subst (λ size. All (λ n. n < size) finds.found) was.size finds.within));
          last = λ n inside.
              ap (λ q. is_on n (drop (length s.queue.items) q)) finds.queue
              ∙ ap (is_on n) (drop-append_seam s.queue.items finds.found)
              ∙ finds.which n (omega (arith, inside, was.size))
              ∙ ap (λ o. is_led_by graph level n && is_none o) (was.depths n inside)
              ∙ given-depth (suc depth) (is_led_by graph level n) (least_below (found_at n) (suc depth))
              (λ d is. let l = least-found (found_at n) (suc depth) d is in l.below)
              ∙ ap (is_depth (suc depth)) (sym (each n inside));
        }

    pub searched-then : (s' : Search) (next upto : ℕ) → next ≡ suc depth → upto ≡ length s.queue.items → Finds s s' next (is_led_by graph level) → IsSearched graph begun s' upto next
    searched-then s' next upto more end finds =
        subst (λ k. IsSearched graph begun s' upto k) (sym more)
        (subst (λ from. IsSearched graph begun s' from (suc depth)) (sym end) (searched-next s' (subst (λ k. Finds s s' k (is_led_by graph level)) more finds)))

  -- all depths
  pub searched-all : (s : Search) (from depth : ℕ) → IsSearched graph begun s from depth → depth ≡ length graph → AreDepths graph begun s.depths.items
  searched-all s from depth was all = record {
    size = was.size;
    each = λ n inside. was.depths n inside ∙ ap (λ k. least_below (found_at n) (suc k)) all;
  }

  -- the roots
  pub searched-roots : (s s' : Search) (roots : List ℕ) → ((n : ℕ) → begun n ≡ is_on n roots) → length s.depths.items ≡ length graph → ((n : ℕ) → at_cell s.depths.items n ≡ None)
      → s.queue.items ≡ [] → Finds s s' 0 (λ n. is_on n roots) → IsSearched graph begun s' 0 0
  searched-roots s s' roots same size none empty finds =
      let queue : s'.queue.items ≡ finds.found = finds.queue ∙ ap (λ l. l ++ finds.found) empty in
      let each : (n : ℕ) → n < length graph → at_cell s'.depths.items n ≡ or_given 0 (is_on n roots) None =
      λ n inside. finds.gives.each n (omega (arith, inside, size)) ∙ ap (or_given 0 (is_on n roots)) (none n) in record {
        size = finds.gives.size ∙ size;
        depths = λ n inside. each n inside ∙ ap (λ b. or_given 0 b None) (sym (same n));
        queue = subst (All (λ n. n < length graph)) (sym queue) (subst (λ size. All (λ n. n < size) finds.found) size finds.within);
        last = λ n inside.
            ap (is_on n) queue
            ∙ finds.which n (omega (arith, inside, size))
            ∙ ap (λ o. is_on n roots && is_none o) (none n)
            ∙ given-depth 0 (is_on n roots) None (λ d is. absurd (none-some d is))
            ∙ ap (is_depth 0) (sym (each n inside));
      }
