-- The spots of a cell, and those that wait.
use Rattle.std.proofs.Common.{◌≡◌, ℕ, zero, suc, ◌+◌, ◌<◌, ◌≤◌, Bool, true, false, List, [], ◌∷◌, ◌++◌, length, set, drop, get_or, Option, Some, sym, ◌∙◌, ap, arith}
use Rattle.std.specs.Prelude.{slice_get, if◌then◌else◌}
use Rattle.std.specs.List.{enumerate_from, flat_map}
use Rattle.std.specs.Option.{option_map}
use Rattle.std.proofs.lemmas.List.{drop_all, length-map, reverse-append}
use Rattle.std.proofs.lemmas.List.FromFn.{length-enumerate_from}
use Rattle.std.proofs.lemmas.Option.{slice_get-map}
use Rattle.dump_io.specs.Laws.Lists.{drop-at, enumerate-at}
use Rattle.cell_records.specs.declared.cells.Kind.{Kind}
use Rattle.cell_graphs.specs.Graphs.{Graph, places_at}
use Rattle.cell_parts.specs.Elements.{Spot, spots_of}
use Rattle.heap_skeleton.specs.Kinds.{cell_kind}
use Rattle.cell_parts.specs.Inner.Walking.{places_left, spot_at, spots_from, waiting}
use Rattle.cell_parts.specs.declared.elements.Frame.{Frame}

module _ (kinds : List (Option Kind)) (graph : Graph) where
  spot-there : (at : Frame) (lead : Option ℕ) → slice_get (places_at graph at.cell) at.place ≡ Some lead
      → slice_get (spots_of kinds graph at.cell) at.place ≡ Some (spot_at kinds at lead)
  spot-there at lead is =
      let make : ℕ × Option ℕ → Spot = λ p. record { kind = cell_kind kinds at.cell; place = p.0; lead = p.1 } in
      let place : 0 + at.place ≡ at.place = omega arith in
      slice_get-map make (enumerate_from 0 (places_at graph at.cell)) at.place
      ∙ ap (option_map make) (enumerate-at 0 (places_at graph at.cell) at.place lead is ∙ ap (λ n. Some (n, lead)) place)

  -- the spots of a cell from a place on begin with that there
  pub spots-first : (at : Frame) (lead : Option ℕ) → slice_get (places_at graph at.cell) at.place ≡ Some lead
      → spots_from kinds graph at ≡ spot_at kinds at lead ∷ drop (at.place + 1) (spots_of kinds graph at.cell)
  spots-first at lead is = drop-at (spots_of kinds graph at.cell) at.place (spot_at kinds at lead) (spot-there at lead is)

  pub spots-count : (m : ℕ) → length (spots_of kinds graph m) ≡ length (places_at graph m)
  spots-count m =
      length-map (enumerate_from 0 (places_at graph m)) (λ p. let s : Spot = record { kind = cell_kind kinds m; place = p.0; lead = p.1 } in s)
      ∙ length-enumerate_from 0 (places_at graph m)

  -- none are left past the last place
  pub spots-end : (m place : ℕ) → length (places_at graph m) ≤ place → drop place (spots_of kinds graph m) ≡ []
  spots-end m place past = drop_all place (spots_of kinds graph m) (omega (arith, past, spots-count m))

  pub waiting-more : (frames : List Frame) (at : Frame) → waiting kinds graph (frames ++ at ∷ []) ≡ spots_from kinds graph at ++ waiting kinds graph frames
  waiting-more frames at = ap (flat_map (spots_from kinds graph)) (reverse-append frames (at ∷ []))

-- ---- the places of the cells that aren't marked

pub left-set : (marks : List Bool) (graph : Graph) (m : ℕ) → m < length marks → length marks ≡ length graph → get_or marks m false ≡ false
    → places_left (set marks m true) graph + length (places_at graph m) ≡ places_left marks graph
left-set [] graph m within same off = absurd (omega (arith, within))
left-set (mark ∷ marks) [] m within same off = absurd (omega (arith, same))
left-set (mark ∷ marks) (places ∷ graph) zero within same off =
    let here : 0 + places_left marks graph + length places ≡ length places + places_left marks graph = omega arith in
    here ∙ ap (λ b. (if b then 0 else length places) + places_left marks graph) (sym off)
left-set (mark ∷ marks) (places ∷ graph) (suc m) within same off =
    let later = left-set marks graph m (omega (arith, within)) (omega (arith, same)) off in
    let head : ℕ = if mark then 0 else length places in
    let sum : head + places_left (set marks m true) graph + length (places_at graph m) ≡ head + (places_left (set marks m true) graph + length (places_at graph m)) = omega arith in
    sum ∙ ap (λ n. head + n) later
