-- One place of the walk, and its end.
use Rattle.std.proofs.Common.{◌≡◌, ℕ, ◌+◌, ◌-◌, ◌<◌, Bool, true, false, not, List, [], ◌∷◌, ◌++◌, length, map, set, Option, None, Some, refl, sym, ◌∙◌, ap, subst, arith, length-append, append-nil, Result, Ok, Err}
use Rattle.std.specs.Prelude.{codes, replicate}
use Rattle.std.specs.List.{enumerate_from}
use Rattle.std.specs.Result.{OnOk}
use Rattle.std.proofs.lemmas.List.{append_assoc, map-append}
use Rattle.dump_io.specs.Laws.Lists.{enumerate-push, none-on}
use Rattle.cell_records.specs.declared.cells.Kind.{Kind}
use Rattle.cell_graphs.specs.Graphs.{Graph}
use Rattle.cell_graphs.specs.Laws.Closing.{count-most}
use Rattle.cell_graphs.specs.Frontiers.{is_on}
use Rattle.cell_parts.specs.Elements.{Spot, cell_elements, opened_at, placed_leads, spots_of, weighed, weighed_at}
use Rattle.cell_parts.specs.Parts.{ArePartsOf, CellParts, PartElement}
use Rattle.cell_parts.specs.Inner.Walking.{AreMarked, HasAdded, IsWalking}
use Rattle.cell_parts.proofs.Opening.{marked-more, unpassed-less, weighed-none, weighed-some}

-- ---- one more element

placed-push : (leads : List (Option ℕ)) (lead : Option ℕ)
    → placed_leads (leads ++ lead ∷ []) ≡ placed_leads leads ++ (let e : PartElement = record { lead = lead; at = length leads; label = codes "-" } in e) ∷ []
placed-push leads lead =
    let make : ℕ × Option ℕ → PartElement = λ p. record { lead = p.1; at = p.0; label = codes "-" } in
    let place : 0 + length leads ≡ length leads = omega arith in
    ap (map make) (enumerate-push 0 leads lead ∙ ap (λ n. enumerate_from 0 leads ++ (n, lead) ∷ []) place)
    ∙ map-append make (enumerate_from 0 leads) ((length leads, lead) ∷ [])

pub added-none : (before parts : CellParts) → parts ≡ before → HasAdded before [] parts
added-none before parts same = record {
  count = let count : parts.elements ≡ before.elements = ap (λ (v : CellParts). v.elements) same in omega (arith, count);
  parts_are = λ elements are. subst (λ es. ArePartsOf es parts) (sym (append-nil elements)) (subst (ArePartsOf elements) (sym same) are);
}

pub added-more : (before old new : CellParts) (leads : List (Option ℕ)) (lead : Option ℕ) (at : ℕ) → HasAdded before leads old → at ≡ old.elements - before.elements → new.elements ≡ old.elements + 1
    → ((elements : List PartElement) → ArePartsOf elements old → ArePartsOf (elements ++ (let e : PartElement = record { lead = lead; at = at; label = codes "-" } in e) ∷ []) new)
    → HasAdded before (leads ++ lead ∷ []) new
added-more before old new leads lead at has place count more = record {
  count = omega (arith, has.count, count, length-append leads (lead ∷ []));
  parts_are = λ elements are.
      let number : at ≡ length leads = omega (arith, place, has.count) in
      let all : (elements ++ placed_leads leads) ++ (let e : PartElement = record { lead = lead; at = at; label = codes "-" } in e) ∷ [] ≡ elements ++ placed_leads (leads ++ lead ∷ []) =
      append_assoc elements (placed_leads leads) ((let e : PartElement = record { lead = lead; at = at; label = codes "-" } in e) ∷ [])
      ∙ ap (λ n. elements ++ (placed_leads leads ++ (let e : PartElement = record { lead = lead; at = n; label = codes "-" } in e) ∷ [])) number
      ∙ ap (λ es. elements ++ es) (sym (placed-push leads lead)) in
      subst (λ es. ArePartsOf es new) all (more (elements ++ placed_leads leads) (has.parts_are elements are));
}

-- ---- one spot

module _ (kinds : List (Option Kind)) (graph : Graph) (cell : ℕ) (before parts : CellParts) (marks : List Bool) (spot : Spot) (spots : List Spot) (w : IsWalking kinds graph cell before parts marks (spot ∷ spots)) where
  -- it opens
  pub walking-open : (m : ℕ) → ((list : List ℕ) → AreMarked marks list → Some m ≡ opened_at kinds list spot) → m < length marks
      → IsWalking kinds graph cell before parts (set marks m true) (spots_of kinds graph m ++ spots)
  walking-open m opens within =
      let opened_is : opened_at kinds w.passed spot ≡ Some m = sym (opens w.passed w.marked) in
      let less = unpassed-less kinds w.passed spot m opened_is in
      let bound : w.bound ≡ w.bound - 1 + 1 = omega (arith, less, w.room) in
      record {
        leads = w.leads;
        passed = m ∷ w.passed;
        bound = w.bound - 1;
        added = w.added;
        marked = marked-more marks w.passed m w.marked within;
        room = omega (arith, less, w.room);
        whole =
            w.whole ∙ ap (λ n. w.leads ++ weighed_at n kinds graph w.passed (spot ∷ spots)) bound
            ∙ ap (λ ls. w.leads ++ ls) (weighed-some kinds graph w.passed spot spots (w.bound - 1) m opened_is);
      }

  -- it doesn't
  pub walking-weigh : (after : CellParts) → ((list : List ℕ) → AreMarked marks list → None ≡ opened_at kinds list spot)
      → HasAdded before (w.leads ++ weighed spot.kind spot.lead) after → IsWalking kinds graph cell before after marks spots
  walking-weigh after none added = record {
    leads = w.leads ++ weighed spot.kind spot.lead;
    passed = w.passed;
    bound = w.bound;
    added = added;
    marked = w.marked;
    room = w.room;
    whole =
        w.whole ∙ ap (λ ls. w.leads ++ ls) (weighed-none kinds graph w.passed spot spots w.bound (sym (none w.passed w.marked)))
        ∙ sym (append_assoc w.leads (weighed spot.kind spot.lead) (weighed_at w.bound kinds graph w.passed spots));
  }

-- ---- the first cell, and the end

marked-none : (cells : ℕ) → AreMarked (replicate cells false) []
marked-none cells n within = none-on cells n

pub walking-first : (kinds : List (Option Kind)) (graph : Graph) (cell cells : ℕ) (before parts : CellParts) → parts ≡ before → cell < length (replicate cells false)
    → IsWalking kinds graph cell before parts (set (replicate cells false) cell true) (spots_of kinds graph cell)
walking-first kinds graph cell cells before parts same within = record {
  leads = [];
  passed = cell ∷ [];
  bound = length kinds;
  added = added-none before parts same;
  marked = marked-more (replicate cells false) [] cell (marked-none cells) within;
  room = count-most (λ n. not (is_on n (cell ∷ []))) (length kinds);
  whole = refl;
}

pub walking-last : (kinds : List (Option Kind)) (graph : Graph) (cell : ℕ) (before parts : CellParts) (marks : List Bool) → IsWalking kinds graph cell before parts marks []
    → (elements : List PartElement) → ArePartsOf elements before → ArePartsOf (elements ++ cell_elements kinds graph cell) parts
walking-last kinds graph cell before parts marks w elements are =
    subst (λ ls. ArePartsOf (elements ++ placed_leads ls) parts) (sym (w.whole ∙ append-nil w.leads)) (w.added.parts_are elements are)

-- ---- results

pub always : {E : Type 0} (result : Result (Unit {0}) E) {A : Type 0} → A → OnOk result A
always (Ok x) a = a
always (Err e) a = tt

pub added-done : {E : Type 0} (result : Result (Unit {0}) E) (before old new : CellParts) (leads : List (Option ℕ)) (lead : Option ℕ) (at : ℕ) → HasAdded before leads old → at ≡ old.elements - before.elements
    → OnOk result (new.elements ≡ old.elements + 1)
    → ((elements : List PartElement) → ArePartsOf elements old → OnOk result (ArePartsOf (elements ++ (let e : PartElement = record { lead = lead; at = at; label = codes "-" } in e) ∷ []) new))
    → OnOk result (HasAdded before (leads ++ lead ∷ []) new)
added-done (Ok x) before old new leads lead at has place count more = added-more before old new leads lead at has place count more
added-done (Err e) before old new leads lead at has place count more = tt
