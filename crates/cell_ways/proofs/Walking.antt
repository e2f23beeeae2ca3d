-- Going back along a way.
use Rattle.std.proofs.Common.{◌≡◌, ℕ, suc, List, [], ◌∷◌, ◌++◌, Option, None, Some, sym, ◌∙◌, ap, append_assoc}
use Rattle.std.specs.Prelude.{reverse}
use Rattle.std.specs.Option.{option_map_or}
use Rattle.std.proofs.lemmas.List.{reverse-append}
use Rattle.cell_ways.specs.Depths.{way_by}

module _ (before : ℕ → Option ℕ) (whole : List ℕ) (here : ℕ) (back back' : List ℕ) (more : back' ≡ back ++ here ∷ []) where
  behind : here ∷ reverse back ≡ reverse back'
  behind = sym (ap reverse more ∙ reverse-append back (here ∷ []))

  -- one step further back
  pub walk-next : (left left' next : ℕ) → left ≡ suc left' → before here ≡ Some next → whole ≡ way_by before left here ++ reverse back → whole ≡ way_by before left' next ++ reverse back'
  walk-next left left' next one is was =
      was
      ∙ ap (λ k. way_by before k here ++ reverse back) one
      ∙ ap (λ o. (option_map_or (way_by before left') o [] ++ here ∷ []) ++ reverse back) is
      ∙ append_assoc (way_by before left' next) (here ∷ []) (reverse back)
      ∙ ap (λ l. way_by before left' next ++ l) behind

  -- nothing is known of where the way comes from
  pub walk-stop : (left left' : ℕ) → left ≡ suc left' → before here ≡ None → whole ≡ way_by before left here ++ reverse back → reverse back' ≡ whole
  walk-stop left left' one is was =
      sym (was ∙ ap (λ k. way_by before k here ++ reverse back) one ∙ ap (λ o. (option_map_or (way_by before left') o [] ++ here ∷ []) ++ reverse back) is ∙ behind)

  -- all steps were made
  pub walk-end : (left : ℕ) → left ≡ 0 → whole ≡ way_by before left here ++ reverse back → reverse back' ≡ whole
  walk-end left none was = sym (was ∙ ap (λ k. way_by before k here ++ reverse back) none ∙ behind)
