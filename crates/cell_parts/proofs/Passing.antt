-- What one place of the walk leaves.
use Rattle.std.proofs.Common.{◌≡◌, ℕ, ◌+◌, ◌<◌, ◌≤◌, Bool, true, false, List, [], ◌∷◌, ◌++◌, length, set, drop, get_or, Option, None, Some, refl, sym, ◌∙◌, ap, subst, arith, append-nil, length-append, Result, Ok, Err}
use Rattle.std.specs.Prelude.{replicate, slice_get}
use Rattle.std.specs.Result.{OnOk}
use Rattle.std.proofs.lemmas.List.{length-replicate, length-set}
use Rattle.std.proofs.lemmas.List.Elements.{All-pop}
use Rattle.cell_records.specs.declared.cells.Kind.{Kind}
use Rattle.cell_graphs.specs.Graphs.{Graph, places_at}
use Rattle.cell_parts.specs.Elements.{Spot, opened_at, spots_of, weighed}
use Rattle.cell_parts.specs.Parts.{CellParts}
use Rattle.cell_parts.specs.Inner.Walking.{AreFrames, AreMarked, HasAdded, IsWalking, places_left, spot_at, spots_from, waiting}
use Rattle.cell_parts.specs.declared.elements.Frame.{Frame}
use Rattle.cell_parts.specs.declared.elements.Walk.{Walk}
use Rattle.cell_parts.proofs.Spots.{left-set, spots-count, spots-first, waiting-more}
use Rattle.cell_parts.proofs.Walking.{walking-first, walking-open, walking-weigh}

-- a place is taken off the frames
module _ (kinds : List (Option Kind)) (graph : Graph) (at : Frame) (lead : Option ℕ) (there : slice_get (places_at graph at.cell) at.place ≡ Some lead)
    (left mid : List Frame) (further : waiting kinds graph mid ≡ drop (at.place + 1) (spots_of kinds graph at.cell) ++ waiting kinds graph left) (marks : List Bool) where
  abbrev spot : Spot
  spot = spot_at kinds at lead

  abbrev all : List Spot
  all = spots_from kinds graph at ++ waiting kinds graph left

  first : all ≡ spot ∷ waiting kinds graph mid
  first = ap (λ spots. spots ++ waiting kinds graph left) (spots-first kinds graph at lead there) ∙ ap (λ spots. spot ∷ spots) (sym further)

  module _ {E : Type 0} (result : Result (Unit {0}) E) where
    -- it opens
    module _ (m : ℕ) (within : m < length marks) (after : List Frame) (opens : OnOk result (waiting kinds graph after ≡ spots_of kinds graph m ++ waiting kinds graph mid)) where
      pub open-walking : (cell : ℕ) (before parts : CellParts) (after_marks : List Bool) → ((list : List ℕ) → AreMarked marks list → Some m ≡ opened_at kinds list spot) → after_marks ≡ set marks m true
          → IsWalking kinds graph cell before parts marks all → OnOk result (IsWalking kinds graph cell before parts after_marks (waiting kinds graph after))
      open-walking cell before parts after_marks is marks_are w = by result opens
        where
          done : IsWalking kinds graph cell before parts after_marks (spots_of kinds graph m ++ waiting kinds graph mid)
          done =
              subst (λ ms. IsWalking kinds graph cell before parts ms (spots_of kinds graph m ++ waiting kinds graph mid)) (sym marks_are)
              (walking-open kinds graph cell before parts marks spot (waiting kinds graph mid) (subst (IsWalking kinds graph cell before parts marks) first w) m is within)

          by : (r : Result (Unit {0}) E) → OnOk r (waiting kinds graph after ≡ spots_of kinds graph m ++ waiting kinds graph mid)
              → OnOk r (IsWalking kinds graph cell before parts after_marks (waiting kinds graph after))
          by (Ok x) are = subst (IsWalking kinds graph cell before parts after_marks) (sym are) done
          by (Err e) are = tt

      pub open-work : (after_marks : List Bool) → length marks ≡ length graph → get_or marks m false ≡ false → after_marks ≡ set marks m true
          → OnOk result (places_left after_marks graph + length (waiting kinds graph after) < places_left marks graph + length all)
      open-work after_marks same off marks_are = by result opens
        where
          by : (r : Result (Unit {0}) E) → OnOk r (waiting kinds graph after ≡ spots_of kinds graph m ++ waiting kinds graph mid)
              → OnOk r (places_left after_marks graph + length (waiting kinds graph after) < places_left marks graph + length all)
          by (Ok x) are =
              omega (
                arith,
                ap (λ ms. places_left ms graph) marks_are,
                left-set marks graph m within same off,
                ap length are,
                length-append (spots_of kinds graph m) (waiting kinds graph mid),
                spots-count kinds graph m,
                ap length first,
              )
          by (Err e) are = tt

    -- it doesn't
    pub weigh-walking : (cell : ℕ) (before parts after : CellParts) → ((list : List ℕ) → AreMarked marks list → None ≡ opened_at kinds list spot)
        → ((leads : List (Option ℕ)) → HasAdded before leads parts → OnOk result (HasAdded before (leads ++ weighed spot.kind spot.lead) after))
        → IsWalking kinds graph cell before parts marks all → OnOk result (IsWalking kinds graph cell before after marks (waiting kinds graph mid))
    weigh-walking cell before parts after none adds w = of (subst (IsWalking kinds graph cell before parts marks) first w)
      where
        of : IsWalking kinds graph cell before parts marks (spot ∷ waiting kinds graph mid) → OnOk result (IsWalking kinds graph cell before after marks (waiting kinds graph mid))
        of now = by result (adds now.leads now.added)
          where
            by : (r : Result (Unit {0}) E) → OnOk r (HasAdded before (now.leads ++ weighed spot.kind spot.lead) after) → OnOk r (IsWalking kinds graph cell before after marks (waiting kinds graph mid))
            by (Ok x) added = walking-weigh kinds graph cell before parts marks spot (waiting kinds graph mid) now after none added
            by (Err e) added = tt

    pub weigh-work : places_left marks graph + length (waiting kinds graph mid) < places_left marks graph + length all
    weigh-work = omega (arith, ap length first)

-- what the loop keeps
pub record Goes (kinds : List (Option Kind)) (graph : Graph) (cell : ℕ) (before parts : CellParts) (walk : Walk) : Type 0 where
  pub cells : parts.cells ≡ length graph
  pub total : before.elements ≤ parts.elements
  pub size : length walk.passed.items ≡ length graph
  pub frames : AreFrames graph walk.frames.items
  pub walking : IsWalking kinds graph cell before parts walk.passed.items (waiting kinds graph walk.frames.items)

pub goes-first : (kinds : List (Option Kind)) (graph : Graph) (cell cells : ℕ) (parts : CellParts) (walk : Walk) (marks : List Bool) (none : List Frame) → parts.cells ≡ length graph → cells ≡ length graph
    → cell < length graph → marks ≡ replicate cells false → none ≡ [] → walk.passed.items ≡ set marks cell true → AreFrames graph walk.frames.items
    → waiting kinds graph walk.frames.items ≡ spots_of kinds graph cell ++ waiting kinds graph none → Goes kinds graph cell parts parts walk
goes-first kinds graph cell cells parts walk marks none same count within marks_are none_is passed frames further = record {
  cells = same;
  total = omega arith;
  size = ap length passed_are ∙ length-set (replicate cells false) cell true ∙ length-replicate cells false ∙ count;
  frames = frames;
  walking =
      subst (λ ms. IsWalking kinds graph cell parts parts ms (waiting kinds graph walk.frames.items)) (sym passed_are)
      (subst (IsWalking kinds graph cell parts parts (set (replicate cells false) cell true)) (sym spots)
      (walking-first kinds graph cell cells parts parts refl (omega (arith, within, count, length-replicate cells false))));
}
  where
    passed_are : walk.passed.items ≡ set (replicate cells false) cell true
    passed_are = passed ∙ ap (λ ms. set ms cell true) marks_are

    spots : waiting kinds graph walk.frames.items ≡ spots_of kinds graph cell
    spots = further ∙ ap (λ fs. spots_of kinds graph cell ++ waiting kinds graph fs) none_is ∙ append-nil (spots_of kinds graph cell)

-- a frame is taken off
module _ (kinds : List (Option Kind)) (graph : Graph) (cell : ℕ) (before parts : CellParts) (walk : Walk) (goes : Goes kinds graph cell before parts walk)
    (left : List Frame) (at : Frame) (popped : walk.frames.items ≡ left ++ at ∷ []) where
  pub frames-left : AreFrames graph left
  frames-left = (All-pop (λ (f : Frame). f.place < length (places_at graph f.cell)) walk.frames.items left (Some at) popped goes.frames).0

  pub frame-taken : at.place < length (places_at graph at.cell)
  frame-taken = (All-pop (λ (f : Frame). f.place < length (places_at graph f.cell)) walk.frames.items left (Some at) popped goes.frames).1

  pub spots-taken : waiting kinds graph walk.frames.items ≡ spots_from kinds graph at ++ waiting kinds graph left
  spots-taken = ap (waiting kinds graph) popped ∙ waiting-more kinds graph left at

  pub walking-taken : IsWalking kinds graph cell before parts walk.passed.items (spots_from kinds graph at ++ waiting kinds graph left)
  walking-taken = subst (IsWalking kinds graph cell before parts walk.passed.items) spots-taken goes.walking
