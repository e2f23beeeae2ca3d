use Rattle.std.proofs.Common.{◌≡◌, ℕ, ◌+◌, ◌≤◌, List, length, get_or, map, sym, ◌∙◌, ap, ap₂, subst, arith}
use Rattle.std.specs.Prelude.{slice_range}
use Rattle.dump_io.specs.Limits.{usual}
use Rattle.cell_records.specs.declared.cells.Slot.{Slot}
use Rattle.heap_cells.specs.HeapMap.{elements_at}
use Rattle.heap_cells.specs.Inner.Records.{row_end}
use Rattle.heap_cells.specs.Targets.{number, slot_target}
use Rattle.heap_cells.proofs.TargetFacts.{slots-within}
use Rattle.heap_graph.specs.Held.{start_at}
use Rattle.heap_cells.proofs.HeapFacts as facts
use Rattle.heap_cells.proofs.heap.Heap.slots.Goals as goal

pub index-requires : goal.index-requires
index-requires c =
    let h = c.self.inside in
    omega (arith, c.requires, facts.count-kinds h c.args.self.now c.self.invariant c.self.view_is, c.number-i.ensures, h.kinds.ok.0)

pub row-from-requires : goal.row-from-requires
row-from-requires c =
    let h = c.self.inside in
    omega (arith, c.requires, facts.count-parts h c.args.self.now c.self.invariant c.self.view_is, c.number-i.ensures, ap length c.deref.ensures.value)

pub items_between-requires-clause-ordered : goal.items_between-requires-clause-ordered
items_between-requires-clause-ordered c =
    let h = c.self.inside in
    let i = number c.args.ix in
    let same : (n : ℕ) → c.number-i.result + n ≡ i + n = λ n. ap (λ k. k + n) c.number-i.ensures in
    let kind : c.index.result.now ≡ get_or h.kinds.items i c.index.result.now = subst (λ n. c.index.result.now ≡ get_or h.kinds.items n c.index.result.now) c.number-i.ensures c.index.ensures in
    let from : c.row-from.result.0 ≡ start_at h.parts.items i (length h.slots.items) =
    c.row-from.ensures.from ∙ ap₂ (λ p (s : List Slot). start_at p c.number-i.result (length s)) c.deref.ensures.value c.deref-2.ensures.value ∙ ap (λ n. start_at h.parts.items n (length h.slots.items)) c.number-i.ensures in
    let upto : c.row-from.result.1 ≡ row_end c.index.result.now c.row-from.result.0 (start_at h.parts.items (i + 1) (length h.slots.items)) =
    c.row-from.ensures.upto ∙ ap (row_end c.index.result.now c.row-from.result.0)
    (ap₂ (λ p (s : List Slot). start_at p (c.number-i.result + 1) (length s)) c.deref.ensures.value c.deref-2.ensures.value ∙ ap (λ n. start_at h.parts.items n (length h.slots.items)) (same 1)) in
    (facts.row-bounds h c.args.self.now c.self.invariant c.self.view_is i c.requires c.index.result.now c.row-from.result.0 c.row-from.result.1 kind from upto).0

pub items_between-requires-clause-within : goal.items_between-requires-clause-within
items_between-requires-clause-within c =
    let h = c.self.inside in
    let i = number c.args.ix in
    let same : (n : ℕ) → c.number-i.result + n ≡ i + n = λ n. ap (λ k. k + n) c.number-i.ensures in
    let kind : c.index.result.now ≡ get_or h.kinds.items i c.index.result.now = subst (λ n. c.index.result.now ≡ get_or h.kinds.items n c.index.result.now) c.number-i.ensures c.index.ensures in
    let from : c.row-from.result.0 ≡ start_at h.parts.items i (length h.slots.items) =
    c.row-from.ensures.from ∙ ap₂ (λ p (s : List Slot). start_at p c.number-i.result (length s)) c.deref.ensures.value c.deref-2.ensures.value ∙ ap (λ n. start_at h.parts.items n (length h.slots.items)) c.number-i.ensures in
    let upto : c.row-from.result.1 ≡ row_end c.index.result.now c.row-from.result.0 (start_at h.parts.items (i + 1) (length h.slots.items)) =
    c.row-from.ensures.upto ∙ ap (row_end c.index.result.now c.row-from.result.0)
    (ap₂ (λ p (s : List Slot). start_at p (c.number-i.result + 1) (length s)) c.deref.ensures.value c.deref-2.ensures.value ∙ ap (λ n. start_at h.parts.items n (length h.slots.items)) (same 1)) in
    omega (arith, (facts.row-bounds h c.args.self.now c.self.invariant c.self.view_is i c.requires c.index.result.now c.row-from.result.0 c.row-from.result.1 kind from upto).1, ap length c.deref-3.ensures.value)

pub returns-clause-targets : goal.returns-clause-targets
returns-clause-targets c =
    let h = c.self.inside in
    let i = number c.args.ix in
    let same : (n : ℕ) → c.number-i.result + n ≡ i + n = λ n. ap (λ k. k + n) c.number-i.ensures in
    let kind : c.index.result.now ≡ get_or h.kinds.items i c.index.result.now = subst (λ n. c.index.result.now ≡ get_or h.kinds.items n c.index.result.now) c.number-i.ensures c.index.ensures in
    let from : c.row-from.result.0 ≡ start_at h.parts.items i (length h.slots.items) =
    c.row-from.ensures.from ∙ ap₂ (λ p (s : List Slot). start_at p c.number-i.result (length s)) c.deref.ensures.value c.deref-2.ensures.value ∙ ap (λ n. start_at h.parts.items n (length h.slots.items)) c.number-i.ensures in
    let upto : c.row-from.result.1 ≡ row_end c.index.result.now c.row-from.result.0 (start_at h.parts.items (i + 1) (length h.slots.items)) =
    c.row-from.ensures.upto ∙ ap (row_end c.index.result.now c.row-from.result.0)
    (ap₂ (λ p (s : List Slot). start_at p (c.number-i.result + 1) (length s)) c.deref.ensures.value c.deref-2.ensures.value ∙ ap (λ n. start_at h.parts.items n (length h.slots.items)) (same 1)) in
    ap (map slot_target) (c.items_between.ensures ∙ ap (λ l. slice_range l c.row-from.result.0 c.row-from.result.1) c.deref-3.ensures.value) ∙ facts.row-target h c.args.self.now c.self.invariant c.self.view_is i c.requires c.index.result.now c.row-from.result.0 c.row-from.result.1 kind from upto

pub returns-clause-within : goal.returns-clause-within
returns-clause-within c =
    slots-within c.args.self.now.cells c.items_between.result.now (elements_at c.args.self.now.cells (number c.args.ix)) (returns-clause-targets c)

pub returns-clause-few : goal.returns-clause-few
returns-clause-few c =
    let h = c.self.inside in
    let i = number c.args.ix in
    let same : (n : ℕ) → c.number-i.result + n ≡ i + n = λ n. ap (λ k. k + n) c.number-i.ensures in
    let kind : c.index.result.now ≡ get_or h.kinds.items i c.index.result.now = subst (λ n. c.index.result.now ≡ get_or h.kinds.items n c.index.result.now) c.number-i.ensures c.index.ensures in
    let from : c.row-from.result.0 ≡ start_at h.parts.items i (length h.slots.items) =
    c.row-from.ensures.from ∙ ap₂ (λ p (s : List Slot). start_at p c.number-i.result (length s)) c.deref.ensures.value c.deref-2.ensures.value ∙ ap (λ n. start_at h.parts.items n (length h.slots.items)) c.number-i.ensures in
    let upto : c.row-from.result.1 ≡ row_end c.index.result.now c.row-from.result.0 (start_at h.parts.items (i + 1) (length h.slots.items)) =
    c.row-from.ensures.upto ∙ ap (row_end c.index.result.now c.row-from.result.0)
    (ap₂ (λ p (s : List Slot). start_at p (c.number-i.result + 1) (length s)) c.deref.ensures.value c.deref-2.ensures.value ∙ ap (λ n. start_at h.parts.items n (length h.slots.items)) (same 1)) in
    subst (λ (l : List Slot). length l ≤ usual.dense) (sym (c.items_between.ensures ∙ ap (λ l. slice_range l c.row-from.result.0 c.row-from.result.1) c.deref-3.ensures.value)) (facts.row-few h c.args.self.now c.self.invariant c.self.view_is i c.requires c.index.result.now c.row-from.result.0 c.row-from.result.1 kind from upto)
