-- A part comes to cells.
use Rattle.std.proofs.Common.{◌≡◌, ℕ, ◌+◌, ◌<◌, ◌≤◌, ◌⊎◌, Bool, true, false, nat_eq, List, ◌∷◌, length, set, get_or, Option, Some, refl, sym, ◌∙◌, ap, subst, inl, inr, arith}
use Rattle.std.specs.Prelude.{slice_get}
use Rattle.std.specs.List.{sum_by}
use Rattle.std.proofs.lemmas.Bool.{cases_eq, eq-eqb, or_left, or_right}
use Rattle.std.proofs.lemmas.List.{get_or-set_other, get_or-set_same, length-map, length-set, map-set}
use Rattle.std.proofs.lemmas.List.Sums.{sum_by-set}
use Rattle.cell_graphs.specs.Graphs.{Graph, Leads, places_at}
use Rattle.cell_graphs.specs.Reached.{IsIn}
use Rattle.cell_graphs.specs.Frontiers.{Adds, LeadsBy, is_on, unmarked}
use Rattle.cell_graphs.specs.Laws.Adding.{Adds-same, Adds-then, gets-set, had-set}
use Rattle.cell_graphs.specs.Laws.Places as walk
use Rattle.heap_weights.specs.declared.holders.Holder.{Holder}
use Rattle.heap_weights.specs.declared.holders.Holder.TheVariants.{Nobody}
use Rattle.heap_weights.specs.Holders.{held_too, holder_at}
use Rattle.heap_weights.specs.Labels.{IsTurned, Labelling, Takes, Walks, frontier, is_stop, is_stopped, marks_of}
use Rattle.heap_weights.specs.Inner.Labels.{pushed}
use Rattle.heap_weights.proofs.Turning.{IsTurned-then, marked-stop, stop-too}

-- ---- walks

pub Walks-none : (labels : Labelling) → Walks labels labels
Walks-none labels = record { part = refl; reserved = refl; turned = λ n. inl refl }

pub Walks-then : (a b c : Labelling) → Walks a b → Walks b c → Walks a c
Walks-then a b c one two = record {
  part = two.part ∙ one.part;
  reserved = two.reserved ∙ one.reserved;
  turned = λ n.
      IsTurned-then a.part (holder_at a.holders n) (holder_at b.holders n) (holder_at c.holders n) (one.turned n)
      (subst (λ part. IsTurned part (holder_at b.holders n) (holder_at c.holders n)) one.part (two.turned n));
}

-- ---- one set and another

pub Takes-then : (a b c : Labelling) (P Q R : ℕ → Type 0) → Takes a b P → Takes b c Q → ((n : ℕ) → R n → P n ⊎ Q n) → ((n : ℕ) → P n → R n) → ((n : ℕ) → Q n → R n) → Takes a c R
Takes-then a b c P Q R one two parts left right = record {
  adds = Adds-then (frontier a) (frontier b) (frontier c) P Q R one.adds two.adds parts left right;
  size = two.size ∙ one.size;
  walks = Walks-then a b c one.walks two.walks;
}

pub Takes-same : (a b : Labelling) (P Q : ℕ → Type 0) → Takes a b P → ((n : ℕ) → P n → Q n) → ((n : ℕ) → Q n → P n) → Takes a b Q
Takes-same a b P Q takes there back = record {
  adds = Adds-same (frontier a) (frontier b) P Q takes.adds there back;
  size = takes.size;
  walks = takes.walks;
}

-- no cell
pub Takes-none : (labels : Labelling) (P : ℕ → Type 0) → ((n : ℕ) → P n → ⊥) → Takes labels labels P
Takes-none labels P none = record {
  adds = record {
    cells = refl;
    room = refl;
    had = λ n is. is;
    gets = λ n p. absurd (none n p);
    only = λ n is. inl is;
    kept = λ n on. on;
    waits = λ n is. inl is;
    work = refl;
  };
  size = refl;
  walks = Walks-none labels;
}

-- a cell at which the part stops
pub Takes-stopped : (labels : Labelling) (c : ℕ) → is_stopped labels c ≡ true → Takes labels labels (λ n. n ≡ c)
Takes-stopped labels c stopped = record {
  adds = record {
    cells = refl;
    room = refl;
    had = λ n is. is;
    gets = λ n same. marked-stop labels.part labels.holders n ∙ ap (is_stopped labels) same ∙ stopped;
    only = λ n is. inl is;
    kept = λ n on. on;
    waits = λ n is. inl is;
    work = refl;
  };
  size = refl;
  walks = Walks-none labels;
}

-- ---- a mark is set, and the cell waits

only-set : (marks : List Bool) (c n : ℕ) → IsIn (set marks c true) n → IsIn marks n ⊎ (n ≡ c)
only-set marks c n is = elim (cases_eq n c) [ inl same ↦ inr same | inr other ↦ inl (sym (get_or-set_other marks c n true false other) ∙ is) ]

work-set : (marks : List Bool) (c : ℕ) (waiting : List ℕ) → c < length marks → get_or marks c false ≡ false
    → sum_by unmarked (set marks c true) + length (c ∷ waiting) ≡ sum_by unmarked marks + length waiting
work-set marks c waiting lt off =
    let changed : sum_by unmarked (set marks c true) + unmarked (get_or marks c false) ≡ sum_by unmarked marks + unmarked true = sum_by-set unmarked marks c true false lt in
    let one : unmarked (get_or marks c false) ≡ 1 = ap unmarked off in
    omega (arith, changed, one)

Adds-set : (marks : List Bool) (reserved : ℕ) (waiting : List ℕ) (c : ℕ) (set_marks : List Bool) → c < length marks → get_or marks c false ≡ false → set_marks ≡ set marks c true
    → Adds (record { marks = marks; reserved = reserved; waiting = waiting }) (record { marks = set_marks; reserved = reserved; waiting = c ∷ waiting }) (λ n. n ≡ c)
Adds-set marks reserved waiting c set_marks lt off is =
    subst (λ ms. Adds (record { marks = marks; reserved = reserved; waiting = waiting }) (record { marks = ms; reserved = reserved; waiting = c ∷ waiting }) (λ n. n ≡ c)) (sym is)
    (record {
      cells = length-set marks c true;
      room = refl;
      had = λ n in_set. had-set marks c n lt in_set;
      gets = λ n same. gets-set marks c n lt same;
      only = λ n in_set. only-set marks c n in_set;
      kept = λ n on. or_right (nat_eq n c) (is_on n waiting) on;
      waits = λ n in_set. elim (only-set marks c n in_set) [ inl was ↦ inl was | inr same ↦ inr (or_left (nat_eq n c) (is_on n waiting) (eq-eqb n c same)) ];
      work = work-set marks c waiting lt off;
    })

-- ---- a cell at which the part doesn't stop

pub marks-set : (part : ℕ) (holders : List Holder) (c : ℕ) → marks_of part (set holders c (held_too part (holder_at holders c))) ≡ set (marks_of part holders) c true
marks-set part holders c =
    map-set (is_stop part) holders c (held_too part (holder_at holders c)) ∙ ap (λ b. set (marks_of part holders) c b) (stop-too part (holder_at holders c))

turned-set : (part : ℕ) (holders : List Holder) (c n : ℕ) → c < length holders → is_stop part (holder_at holders c) ≡ false
    → IsTurned part (holder_at holders n) (holder_at (set holders c (held_too part (holder_at holders c))) n)
turned-set part holders c n lt passed =
    elim (cases_eq n c) [
      | inr other ↦ inl (get_or-set_other holders c n (held_too part (holder_at holders c)) Nobody other)
      | inl same ↦
          subst (λ k. IsTurned part (holder_at holders k) (holder_at (set holders c (held_too part (holder_at holders c))) k)) (sym same)
          (inr (passed, get_or-set_same holders c (held_too part (holder_at holders c)) Nobody lt))
    ]

pub Takes-pushed : (old new : Labelling) (c : ℕ) → c < length old.holders → is_stopped old c ≡ false → new ≡ pushed c old → Takes old new (λ n. n ≡ c)
Takes-pushed old new c lt passed is =
    subst (λ labels. Takes old labels (λ n. n ≡ c)) (sym is)
    (record {
      adds =
          Adds-set (marks_of old.part old.holders) old.reserved old.waiting c (marks_of old.part (pushed c old).holders)
          (let same : length (marks_of old.part old.holders) ≡ length old.holders = length-map old.holders (is_stop old.part) in omega (arith, lt, same))
          (marked-stop old.part old.holders c ∙ passed)
          (marks-set old.part old.holders c);
      size = length-set old.holders c (held_too old.part (holder_at old.holders c));
      walks = record { part = refl; reserved = refl; turned = λ n. turned-set old.part old.holders c n lt passed };
    })

-- ---- the cells to which places lead, one place after another

pub places-next : (graph : Graph) (m i : ℕ) (place : Option ℕ) (a b c : Labelling) → slice_get (places_at graph m) i ≡ Some place → Takes a b (LeadsBy graph m i) → Takes b c (λ n. place ≡ Some n)
    → Takes a c (LeadsBy graph m (i + 1))
places-next graph m i place a b c here one two = record {
  adds = walk.places-next graph m i place (frontier a) (frontier b) (frontier c) here one.adds two.adds;
  size = two.size ∙ one.size;
  walks = Walks-then a b c one.walks two.walks;
}

pub places-end : (graph : Graph) (m i : ℕ) (a b : Labelling) → length (places_at graph m) ≤ i → Takes a b (LeadsBy graph m i) → Takes a b (Leads graph m)
places-end graph m i a b all takes = record {
  adds = walk.places-end graph m i (frontier a) (frontier b) all takes.adds;
  size = takes.size;
  walks = takes.walks;
}
