use Rattle.std.proofs.Common.{sym, ◌∙◌, ap}
use Rattle.heap_cells.specs.Targets.{number}
use Rattle.cell_records.specs.declared.cells.Why.TheVariants.{Malformed, OnPath}
use Rattle.term_unfold.proofs.Targets.{address-is}
use Rattle.term_unfold.specs.Kinds.{item_kind}
use Rattle.term_unfold.specs.Rules.{bad}
use Rattle.term_unfold.proofs.Opens.{item-on, item-at, item-bad, item-opens}
use Rattle.term_unfold.proofs.openings.open_member.Goals as goal

pub returns-then-is_open : goal.returns-then-is_open
returns-then-is_open c =
    let heap = c.args.heap.now.cells in
    let k = number c.args.ix in
    record {
      found_is = item-on heap _ _ k _ c.requires.leads (sym c.is_open.ensures.on ∙ c.if-is_open.true) ∙ ap (λ x. bad x OnPath) (address-is heap k c.addr.result c.addr.ensures);
      enters = tt;
    }

pub returns-in-Some : goal.returns-in-Some
returns-in-Some c =
    let heap = c.args.heap.now.cells in
    let k = number c.args.ix in
    let off = item-at heap _ _ k _ c.requires.leads (sym c.is_open.ensures.on ∙ c.if-is_open.false) in
    let node = item-opens heap k _ c.in-Some.kind (sym c.kind.ensures) (sym c.item_kind.ensures ∙ c.in-Some.is) in
    record {
      found_is = record { cell = c.requires.cell; fits = node.fits; opens = off ∙ node.opens };
      enters = c.is_open.ensures.line c.if-is_open.false;
    }

pub returns-in-None : goal.returns-in-None
returns-in-None c =
    let heap = c.args.heap.now.cells in
    let k = number c.args.ix in
    record {
      found_is =
          item-at heap _ _ k _ c.requires.leads (sym c.is_open.ensures.on ∙ c.if-is_open.false)
          ∙ item-bad _ _ (ap item_kind (sym c.kind.ensures) ∙ sym c.item_kind.ensures ∙ c.in-None.is) ∙ ap (λ x. bad x Malformed) (address-is heap k c.addr-in-None.result c.addr-in-None.ensures);
      enters = tt;
    }
