-- Cells that are put behind others.
use Rattle.std.proofs.Common.{◌≡◌, ℕ, ◌<◌, Bool, true, false, ◌||◌, nat_eq, List, [], ◌∷◌, ◌++◌, Some, refl, sym, ◌∙◌, ap, subst}
use Rattle.std.specs.Prelude.{All}
use Rattle.std.proofs.lemmas.List.Elements.{All-push}
use Rattle.std.proofs.lemmas.List.Folds.{list_any-append}
use Rattle.cell_graphs.specs.Frontiers.{is_on}
use Rattle.cell_graphs.specs.Rounds.{is_to}
use Rattle.cell_ways.specs.Inner.Search.{Gathers}
use Rattle.cell_ways.proofs.Giving.{or-false, same-eq}

module _ (size : ℕ) where
  -- nothing is put there
  pub gathers-none : (cells : List ℕ) (set : ℕ → Bool) → ((n : ℕ) → set n ≡ false) → Gathers size cells cells set
  gathers-none cells set none = record {
    within = λ all. all;
    which = λ n. sym (ap (λ b. is_on n cells || b) (none n) ∙ or-false (is_on n cells));
  }

  -- one cell is
  pub gathers-one : (old new : List ℕ) (cell : ℕ) → new ≡ old ++ cell ∷ [] → cell < size → Gathers size old new (λ n. is_to n (Some cell))
  gathers-one old new cell more lt = record {
    within = λ all. subst (All (λ n. n < size)) (sym more) (All-push (λ n. n < size) old cell all lt);
    which = λ n.
        ap (is_on n) more ∙ list_any-append (nat_eq n) old (cell ∷ [])
        ∙ ap (λ b. is_on n old || b) (or-false (nat_eq n cell) ∙ same-eq n cell);
  }

  or-joined : (p q r : Bool) → ((p || q) || r) ≡ (p || (q || r))
  or-joined true q r = refl
  or-joined false q r = refl

  -- some cells are, and then others
  pub gathers-then : (a b c : List ℕ) (P Q R : ℕ → Bool) → Gathers size a b P → Gathers size b c Q → ((n : ℕ) → R n ≡ (P n || Q n)) → Gathers size a c R
  gathers-then a b c P Q R one two both = record {
    within = λ all. two.within (one.within all);
    which = λ n.
        two.which n ∙ ap (λ on. on || Q n) (one.which n) ∙ or-joined (is_on n a) (P n) (Q n)
        ∙ ap (λ r. is_on n a || r) (sym (both n));
  }

  pub gathers-same : (a b : List ℕ) (P Q : ℕ → Bool) → Gathers size a b P → ((n : ℕ) → Q n ≡ P n) → Gathers size a b Q
  gathers-same a b P Q one same = record {
    within = one.within;
    which = λ n. one.which n ∙ ap (λ r. is_on n a || r) (sym (same n));
  }
