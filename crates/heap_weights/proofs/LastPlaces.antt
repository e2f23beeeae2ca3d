-- Where the last places of cells lead.
use Rattle.std.proofs.Common.{◌≡◌, ℕ, ◌+◌, ◌<◌, if◌then◌else◌, List, [], ◌∷◌, ◌++◌, length, get_or, Option, None, Some, sym, ◌∙◌, ap, subst, arith, length-append}
use Rattle.std.specs.Prelude.{slice_get, ◌^◌, IfSome}
use Rattle.std.proofs.lemmas.Bool.{ne_eqb}
use Rattle.std.proofs.lemmas.List.{get_or_append_left}
use Rattle.std.proofs.Math.Seq.{get_or-append_seam}
use Rattle.std.proofs.Common.{below_more}
use Rattle.cell_graphs.specs.Graphs.{Graph, places_at}
use Rattle.heap_graph.specs.Leads.{cell_for, nowhere}
use Rattle.heap_weights.specs.LastLeads.{TellsFirst, TellsLast}

-- the number of a cell stands for it
pub cell-marked : (n : ℕ) → n < nowhere → cell_for n ≡ Some n
cell-marked n below = ap (λ b. if b then None else Some n) (ne_eqb n nowhere (λ same. omega (arith, below, same)))

-- a cell without places
pub last-none : (graph : Graph) (cell mark : ℕ) → length (places_at graph cell) ≡ 0 → TellsLast graph cell mark
last-none graph cell mark none = record { last = λ place count. absurd (omega (arith, none, count)) }

-- a cell with places
pub last-some : (graph : Graph) (cell mark at count : ℕ) (lead : Option ℕ) → length (places_at graph cell) ≡ count → at + 1 ≡ count → slice_get (places_at graph cell) at ≡ Some lead → cell_for mark ≡ lead
    → TellsLast graph cell mark
last-some graph cell mark at count lead is last lead_is marked = record {
  last = λ place counted.
      let same : place ≡ at = omega (arith, is, last, counted) in
      ap (slice_get (places_at graph cell)) same ∙ lead_is ∙ ap Some (sym marked);
}

-- before the first cell
pub first-none : (graph : Graph) (marks : List ℕ) → marks ≡ [] → TellsFirst graph 0 marks
first-none graph marks none = record { count = ap length none; each = λ cell below. absurd (omega (arith, below)) }

-- one cell more
pub first-more : (graph : Graph) (n mark : ℕ) (old new : List ℕ) → TellsFirst graph n old → TellsLast graph n mark → new ≡ old ++ mark ∷ [] → TellsFirst graph (n + 1) new
first-more graph n mark old new before last is = subst (TellsFirst graph (n + 1)) (sym is) (record {
  count = length-append old (mark ∷ []) ∙ ap (λ k. k + 1) before.count;
  each = λ cell. below_more (λ cell. TellsLast graph cell (get_or (old ++ mark ∷ []) cell 0)) n
      (λ cell earlier.
      let inside : cell < length old = omega (arith, earlier, before.count) in
      subst (TellsLast graph cell) (sym (get_or_append_left old (mark ∷ []) 0 cell inside)) (before.each cell earlier))
      (let here : get_or (old ++ mark ∷ []) n 0 ≡ mark = ap (λ k. get_or (old ++ mark ∷ []) k 0) (sym before.count) ∙ get_or-append_seam old mark [] 0 in
      subst (TellsLast graph n) (sym here) last) cell;
})

-- where a place leads is no number that stands for no cell
pub lead-below : (lead : Option ℕ) (size : ℕ) → size < 2 ^ 32 → IfSome lead (λ n. n < size) → IfSome lead (λ n. n < nowhere)
lead-below None size few below = tt
lead-below (Some n) size few below = omega (arith, few, below)
