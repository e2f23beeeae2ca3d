use Rattle.std.proofs.Common.{◌≡◌, ℕ, ◌-◌, ◌||◌, Option, refl, sym, ◌∙◌, ap}
use Rattle.std.proofs.lemmas.Bool.{eq-eqb}
use Rattle.heap_cells.specs.Targets.{number}
use Rattle.cell_records.specs.declared.cells.Why.TheVariants.{Malformed, OnPath}
use Rattle.term_unfold.proofs.Targets.{address-is}
use Rattle.cell_records.specs.declared.cells.Kind.{Kind}
use Rattle.term_unfold.specs.Kinds.{are_keys}
use Rattle.term_unfold.specs.Maps.{address_of}
use Rattle.term_unfold.specs.Inner.Entries.{path_of}
use Rattle.term_unfold.specs.Rules.{bad, is_on}
use Rattle.term_unfold.proofs.Opens.{on-longer, off-longer, off-other, term-at, flat-on, flat-keyed, flat-bad}
use Rattle.term_unfold.proofs.openings.open_keyed.Goals as goal

-- the cell holds the keys, whatever its values are called
alike : (k l : Option Kind) (m n v w : ℕ) → k ≡ l → m ≡ n → v ≡ w → are_keys l n w ≡ are_keys k m v
alike k l m n v w kinds counts values = cc

pub returns-then-number : goal.returns-then-number
returns-then-number c =
    let heap = c.args.heap.now.cells in
    let k = number c.args.keys in
    let n = number c.args.ix in
    let same : k ≡ n = sym c.number.ensures ∙ c.if-number.true ∙ c.number-2.ensures in
    let on = ap (λ x. x || is_on (address_of heap k) (path_of heap c.args.path.now.entries)) (eq-eqb (address_of heap k) (address_of heap n) (ap (address_of heap) same)) in
    record {
      found_is = term-at heap _ (number c.args.ix) c.requires.off c.requires.serves.bounded.distinct c.requires.cell ∙ flat-on heap _ _ k _ c.requires.flat c.requires.some c.requires.leads on ∙ ap (λ x. bad x OnPath) (address-is heap k c.addr.result c.addr.ensures);
      enters = tt;
    }

pub returns-then-is_open : goal.returns-then-is_open
returns-then-is_open c =
    let heap = c.args.heap.now.cells in
    let k = number c.args.keys in
    let on = on-longer (address_of heap (number c.args.ix)) _ _ (sym c.is_open.ensures.on ∙ c.if-is_open.true) in
    record {
      found_is = term-at heap _ (number c.args.ix) c.requires.off c.requires.serves.bounded.distinct c.requires.cell ∙ flat-on heap _ _ k _ c.requires.flat c.requires.some c.requires.leads on ∙ ap (λ x. bad x OnPath) (address-is heap k c.addr-then-is_open.result c.addr-then-is_open.ensures);
      enters = tt;
    }

pub returns-then-are_keys : goal.returns-then-are_keys
returns-then-are_keys c =
    let others = off-longer _ _ _ (off-other _ _ _ c.requires.serves.bounded.distinct c.requires.keys c.requires.cell
    (λ e. c.if-number.false (c.number.ensures ∙ e ∙ sym c.number-2.ensures))) (sym c.is_open.ensures.on ∙ c.if-is_open.false) in
    let fit = alike _ _ _ _ _ _ c.kind.ensures (c.from.ensures ∙ c.kids-2.ensures) (c.from-values.ensures ∙ ap (λ n. n - 1) c.kids.ensures) ∙ sym c.are_keys.ensures ∙ c.if-are_keys.true in
    record {
      found_is = record { cell = c.requires.cell; fits = refl; opens = term-at _ _ _ c.requires.off c.requires.serves.bounded.distinct c.requires.cell ∙ flat-keyed _ _ _ _ _ c.requires.flat c.requires.some c.requires.leads others fit };
      enters = c.requires.line;
    }

pub returns-else-are_keys : goal.returns-else-are_keys
returns-else-are_keys c =
    let heap = c.args.heap.now.cells in
    let k = number c.args.keys in
    let others = off-longer _ _ _ (off-other _ _ _ c.requires.serves.bounded.distinct c.requires.keys c.requires.cell
    (λ e. c.if-number.false (c.number.ensures ∙ e ∙ sym c.number-2.ensures))) (sym c.is_open.ensures.on ∙ c.if-is_open.false) in
    let unfit = alike _ _ _ _ _ _ c.kind.ensures (c.from.ensures ∙ c.kids-2.ensures) (c.from-values.ensures ∙ ap (λ n. n - 1) c.kids.ensures) ∙ sym c.are_keys.ensures ∙ c.if-are_keys.false in
    record {
      found_is =
          term-at _ _ _ c.requires.off c.requires.serves.bounded.distinct c.requires.cell ∙ flat-bad _ _ _ _ _ c.requires.flat c.requires.some c.requires.leads others unfit
          ∙ ap (λ x. bad x Malformed) (address-is heap k c.addr-else-are_keys.result c.addr-else-are_keys.ensures);
      enters = tt;
    }
