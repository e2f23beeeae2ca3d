use Rattle.std.proofs.Common.{◌≡◌, ℕ, ◌+◌, List, Some, length, get_or, sym, ◌∙◌, ap, ap₂, subst, arith}
use Rattle.std.specs.Option.{option_map}
use Rattle.cell_records.specs.declared.cells.Slot.{Slot}
use Rattle.heap_cells.specs.Inner.Records.{row_end}
use Rattle.heap_cells.specs.Inner.Texts.{text_of, seam_of}
use Rattle.heap_cells.specs.Targets.{number, target}
use Rattle.heap_cells.proofs.RecordFacts.{keeps-element, spells-readable}
use Rattle.heap_cells.proofs.TargetFacts.{target-within}
use Rattle.heap_graph.specs.Held.{start_at}
use Rattle.heap_cells.proofs.HeapFacts as facts
use Rattle.heap_cells.proofs.heap.Heap.kid.Goals as goal

pub index-requires : goal.index-requires
index-requires c =
    let h = c.self.inside in
    omega (arith, c.requires.cell, facts.count-kinds h c.args.self.now c.self.invariant c.self.view_is, c.number-i.ensures, h.kinds.ok.0)

pub row-from-requires : goal.row-from-requires
row-from-requires c =
    let h = c.self.inside in
    omega (arith, c.requires.cell, facts.count-parts h c.args.self.now c.self.invariant c.self.view_is, c.number-i.ensures, ap length c.deref.ensures.value)

pub overflow_add-from : goal.overflow_add-from
overflow_add-from c =
    let h = c.self.inside in
    let i = number c.args.ix in
    let same : (n : ℕ) → c.number-i.result + n ≡ i + n = λ n. ap (λ k. k + n) c.number-i.ensures in
    let kind : c.index.result.now ≡ get_or h.kinds.items i c.index.result.now = subst (λ n. c.index.result.now ≡ get_or h.kinds.items n c.index.result.now) c.number-i.ensures c.index.ensures in
    let from : c.row-from.result.0 ≡ start_at h.parts.items i (length h.slots.items) =
    c.row-from.ensures.from ∙ ap₂ (λ p (s : List Slot). start_at p c.number-i.result (length s)) c.deref.ensures.value c.deref-2.ensures.value ∙ ap (λ n. start_at h.parts.items n (length h.slots.items)) c.number-i.ensures in
    let upto : c.row-from.result.1 ≡ row_end c.index.result.now c.row-from.result.0 (start_at h.parts.items (i + 1) (length h.slots.items)) =
    c.row-from.ensures.upto ∙ ap (row_end c.index.result.now c.row-from.result.0)
    (ap₂ (λ p (s : List Slot). start_at p (c.number-i.result + 1) (length s)) c.deref.ensures.value c.deref-2.ensures.value ∙ ap (λ n. start_at h.parts.items n (length h.slots.items)) (same 1)) in
    omega (arith, facts.row-inside h c.args.self.now c.self.invariant c.self.view_is i c.requires.cell c.index.result.now c.row-from.result.0 c.row-from.result.1 kind from upto c.args.n c.requires.place, h.slots.ok.0)

pub index-slot-requires : goal.index-slot-requires
index-slot-requires c =
    let h = c.self.inside in
    let i = number c.args.ix in
    let same : (n : ℕ) → c.number-i.result + n ≡ i + n = λ n. ap (λ k. k + n) c.number-i.ensures in
    let kind : c.index.result.now ≡ get_or h.kinds.items i c.index.result.now = subst (λ n. c.index.result.now ≡ get_or h.kinds.items n c.index.result.now) c.number-i.ensures c.index.ensures in
    let from : c.row-from.result.0 ≡ start_at h.parts.items i (length h.slots.items) =
    c.row-from.ensures.from ∙ ap₂ (λ p (s : List Slot). start_at p c.number-i.result (length s)) c.deref.ensures.value c.deref-2.ensures.value ∙ ap (λ n. start_at h.parts.items n (length h.slots.items)) c.number-i.ensures in
    let upto : c.row-from.result.1 ≡ row_end c.index.result.now c.row-from.result.0 (start_at h.parts.items (i + 1) (length h.slots.items)) =
    c.row-from.ensures.upto ∙ ap (row_end c.index.result.now c.row-from.result.0)
    (ap₂ (λ p (s : List Slot). start_at p (c.number-i.result + 1) (length s)) c.deref.ensures.value c.deref-2.ensures.value ∙ ap (λ n. start_at h.parts.items n (length h.slots.items)) (same 1)) in
    omega (arith, facts.row-inside h c.args.self.now c.self.invariant c.self.view_is i c.requires.cell c.index.result.now c.row-from.result.0 c.row-from.result.1 kind from upto c.args.n c.requires.place, h.slots.ok.0)

pub kid_of-requires : goal.kid_of-requires
kid_of-requires c =
    let h = c.self.inside in
    let i = number c.args.ix in
    let same : (n : ℕ) → c.number-i.result + n ≡ i + n = λ n. ap (λ k. k + n) c.number-i.ensures in
    let kind : c.index.result.now ≡ get_or h.kinds.items i c.index.result.now = subst (λ n. c.index.result.now ≡ get_or h.kinds.items n c.index.result.now) c.number-i.ensures c.index.ensures in
    let from : c.row-from.result.0 ≡ start_at h.parts.items i (length h.slots.items) =
    c.row-from.ensures.from ∙ ap₂ (λ p (s : List Slot). start_at p c.number-i.result (length s)) c.deref.ensures.value c.deref-2.ensures.value ∙ ap (λ n. start_at h.parts.items n (length h.slots.items)) c.number-i.ensures in
    let upto : c.row-from.result.1 ≡ row_end c.index.result.now c.row-from.result.0 (start_at h.parts.items (i + 1) (length h.slots.items)) =
    c.row-from.ensures.upto ∙ ap (row_end c.index.result.now c.row-from.result.0)
    (ap₂ (λ p (s : List Slot). start_at p (c.number-i.result + 1) (length s)) c.deref.ensures.value c.deref-2.ensures.value ∙ ap (λ n. start_at h.parts.items n (length h.slots.items)) (same 1)) in
    let found = facts.row-slot h c.args.self.now c.self.invariant c.self.view_is i c.requires.cell c.index.result.now c.row-from.result.0 c.row-from.result.1 kind from upto c.front_is_longest.ensures.found c.whole_is_read.ensures.found c.args.n c.index-slot.result.now c.requires.place c.index-slot.ensures in
    spells-readable (text_of h.texts) (seam_of h.texts) c.index-slot.result.now found.element found.spells

pub returns-clause-target : goal.returns-clause-target
returns-clause-target c =
    let h = c.self.inside in
    let i = number c.args.ix in
    let same : (n : ℕ) → c.number-i.result + n ≡ i + n = λ n. ap (λ k. k + n) c.number-i.ensures in
    let kind : c.index.result.now ≡ get_or h.kinds.items i c.index.result.now = subst (λ n. c.index.result.now ≡ get_or h.kinds.items n c.index.result.now) c.number-i.ensures c.index.ensures in
    let from : c.row-from.result.0 ≡ start_at h.parts.items i (length h.slots.items) =
    c.row-from.ensures.from ∙ ap₂ (λ p (s : List Slot). start_at p c.number-i.result (length s)) c.deref.ensures.value c.deref-2.ensures.value ∙ ap (λ n. start_at h.parts.items n (length h.slots.items)) c.number-i.ensures in
    let upto : c.row-from.result.1 ≡ row_end c.index.result.now c.row-from.result.0 (start_at h.parts.items (i + 1) (length h.slots.items)) =
    c.row-from.ensures.upto ∙ ap (row_end c.index.result.now c.row-from.result.0)
    (ap₂ (λ p (s : List Slot). start_at p (c.number-i.result + 1) (length s)) c.deref.ensures.value c.deref-2.ensures.value ∙ ap (λ n. start_at h.parts.items n (length h.slots.items)) (same 1)) in
    let found = facts.row-slot h c.args.self.now c.self.invariant c.self.view_is i c.requires.cell c.index.result.now c.row-from.result.0 c.row-from.result.1 kind from upto c.front_is_longest.ensures.found c.whole_is_read.ensures.found c.args.n c.index-slot.result.now c.requires.place c.index-slot.ensures in
    ap (option_map (target c.args.self.now.cells)) found.stands ∙ ap Some (sym (c.kid_of.ensures.target ∙ found.target_is))

pub returns-clause-element : goal.returns-clause-element
returns-clause-element c =
    let h = c.self.inside in
    let i = number c.args.ix in
    let same : (n : ℕ) → c.number-i.result + n ≡ i + n = λ n. ap (λ k. k + n) c.number-i.ensures in
    let kind : c.index.result.now ≡ get_or h.kinds.items i c.index.result.now = subst (λ n. c.index.result.now ≡ get_or h.kinds.items n c.index.result.now) c.number-i.ensures c.index.ensures in
    let from : c.row-from.result.0 ≡ start_at h.parts.items i (length h.slots.items) =
    c.row-from.ensures.from ∙ ap₂ (λ p (s : List Slot). start_at p c.number-i.result (length s)) c.deref.ensures.value c.deref-2.ensures.value ∙ ap (λ n. start_at h.parts.items n (length h.slots.items)) c.number-i.ensures in
    let upto : c.row-from.result.1 ≡ row_end c.index.result.now c.row-from.result.0 (start_at h.parts.items (i + 1) (length h.slots.items)) =
    c.row-from.ensures.upto ∙ ap (row_end c.index.result.now c.row-from.result.0)
    (ap₂ (λ p (s : List Slot). start_at p (c.number-i.result + 1) (length s)) c.deref.ensures.value c.deref-2.ensures.value ∙ ap (λ n. start_at h.parts.items n (length h.slots.items)) (same 1)) in
    let found = facts.row-slot h c.args.self.now c.self.invariant c.self.view_is i c.requires.cell c.index.result.now c.row-from.result.0 c.row-from.result.1 kind from upto c.front_is_longest.ensures.found c.whole_is_read.ensures.found c.args.n c.index-slot.result.now c.requires.place c.index-slot.ensures in
    rw found.stands (keeps-element (text_of h.texts) (seam_of h.texts) c.index-slot.result.now found.element c.kid_of.result found.spells c.kid_of.ensures.target c.kid_of.ensures.element)

pub returns-clause-within : goal.returns-clause-within
returns-clause-within c =
    let h = c.self.inside in
    let i = number c.args.ix in
    let same : (n : ℕ) → c.number-i.result + n ≡ i + n = λ n. ap (λ k. k + n) c.number-i.ensures in
    let kind : c.index.result.now ≡ get_or h.kinds.items i c.index.result.now = subst (λ n. c.index.result.now ≡ get_or h.kinds.items n c.index.result.now) c.number-i.ensures c.index.ensures in
    let from : c.row-from.result.0 ≡ start_at h.parts.items i (length h.slots.items) =
    c.row-from.ensures.from ∙ ap₂ (λ p (s : List Slot). start_at p c.number-i.result (length s)) c.deref.ensures.value c.deref-2.ensures.value ∙ ap (λ n. start_at h.parts.items n (length h.slots.items)) c.number-i.ensures in
    let upto : c.row-from.result.1 ≡ row_end c.index.result.now c.row-from.result.0 (start_at h.parts.items (i + 1) (length h.slots.items)) =
    c.row-from.ensures.upto ∙ ap (row_end c.index.result.now c.row-from.result.0)
    (ap₂ (λ p (s : List Slot). start_at p (c.number-i.result + 1) (length s)) c.deref.ensures.value c.deref-2.ensures.value ∙ ap (λ n. start_at h.parts.items n (length h.slots.items)) (same 1)) in
    let found = facts.row-slot h c.args.self.now c.self.invariant c.self.view_is i c.requires.cell c.index.result.now c.row-from.result.0 c.row-from.result.1 kind from upto c.front_is_longest.ensures.found c.whole_is_read.ensures.found c.args.n c.index-slot.result.now c.requires.place c.index-slot.ensures in
    rw (c.kid_of.ensures.target, found.target_is) (target-within c.args.self.now.cells found.element)
