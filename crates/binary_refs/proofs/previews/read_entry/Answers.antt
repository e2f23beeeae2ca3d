use Rattle.std.proofs.Common.{◌≡◌, false, sym, ◌∙◌, ap}
use Rattle.std.specs.Option.{option_map}
use Rattle.heap_cells.specs.Cells.{kind_of}
use Rattle.heap_cells.specs.HeapMap.{form_at}
use Rattle.binary_refs.specs.Inner.Kinds.{refers}
use Rattle.binary_refs.proofs.EntryFacts.{not-stated, no-entry}
use Rattle.binary_refs.proofs.previews.read_entry.Goals as goal

-- the cell with this number refers to no binary
other : (g : Rattle.binary_refs.proofs.previews.read_entry.Given.Over) (c : goal.Then-not-refers g) → refers (option_map kind_of (form_at c.args.heap.now.cells c.args.n)) ≡ false
other g c =
    ap (λ m. refers (option_map kind_of (form_at c.args.heap.now.cells m))) (sym c.cell-ix.ensures) ∙ (ap refers (sym c.kind.ensures) ∙ (sym c.refers.ensures ∙ c.if-not-refers.true))

pub returns-then-not-refers-clause-stated : goal.returns-then-not-refers-clause-stated
returns-then-not-refers-clause-stated g c = sym (not-stated c.args.n (form_at c.args.heap.now.cells c.args.n) (other g c))

pub returns-then-not-refers-clause-entry : goal.returns-then-not-refers-clause-entry
returns-then-not-refers-clause-entry g c = λ dump is. sym (no-entry dump c.args.places.now c.args.heap.now.enc c.args.heap.now.cells c.args.n (form_at c.args.heap.now.cells c.args.n) (other g c))
