use Rattle.std.proofs.Common.{sym, ◌∙◌, ap}
use Rattle.heap_cells.specs.Targets.{number}
use Rattle.cell_records.specs.declared.cells.Why.TheVariants.{Malformed}
use Rattle.term_unfold.specs.Inner.Entries.{path_of}
use Rattle.term_unfold.specs.Kinds.{term_kind}
use Rattle.term_unfold.proofs.Targets.{address-is}
use Rattle.term_unfold.specs.Rules.{bad}
use Rattle.term_unfold.proofs.Opens.{term-at, flat-kind, leaf-opens, malformed-opens, node-opens}
use Rattle.term_unfold.proofs.openings.open_cell.Goals as goal

pub open_flat-requires-clause-flat : goal.open_flat-requires-clause-flat
open_flat-requires-clause-flat c = flat-kind _ (ap term_kind (sym c.kind.ensures) ∙ sym c.term_kind.ensures ∙ c.in-Flat.is)

pub returns-in-Leaf : goal.returns-in-Leaf
returns-in-Leaf c =
    let off = term-at _ _ _ (sym c.is_open.ensures.on ∙ c.if-is_open.false) c.requires.serves.bounded.distinct c.requires.cell in
    let leaf = leaf-opens _ _ _ _ (ap term_kind (sym c.kind.ensures) ∙ sym c.term_kind.ensures ∙ c.in-Leaf.is) in
    record {
      found_is = record { at = record { cell = c.requires.cell; form = leaf.leaf_form; form_is = leaf.form_is; is_leaf = leaf.is_leaf }; opens = off ∙ leaf.opens };
      enters = tt;
    }

pub returns-in-Node : goal.returns-in-Node
returns-in-Node c =
    let heap = c.args.heap.now.cells in
    let off = term-at heap _ _ (sym c.is_open.ensures.on ∙ c.if-is_open.false) c.requires.serves.bounded.distinct c.requires.cell in
    let node = node-opens heap (path_of heap c.args.path.now.entries) (number c.args.ix) _ c.in-Node.kind (sym c.kind.ensures) (sym c.term_kind.ensures ∙ c.in-Node.is) in
    record {
      found_is = record { cell = c.requires.cell; fits = node.fits; opens = off ∙ node.opens };
      enters = c.is_open.ensures.line c.if-is_open.false;
    }

pub returns-in-Malformed : goal.returns-in-Malformed
returns-in-Malformed c =
    let heap = c.args.heap.now.cells in
    let n = number c.args.ix in
    let off = term-at heap _ n (sym c.is_open.ensures.on ∙ c.if-is_open.false) c.requires.serves.bounded.distinct c.requires.cell in
    record {
      found_is = off ∙ malformed-opens _ _ _ _ (ap term_kind (sym c.kind.ensures) ∙ sym c.term_kind.ensures ∙ c.in-Malformed.is) ∙ ap (λ x. bad x Malformed) (address-is heap n c.addr-in-Malformed.result c.addr-in-Malformed.ensures);
      enters = tt;
    }
