use Rattle.std.proofs.Common.{◌≡◌, ℕ, ◌+◌, List, get_or, sym, ◌∙◌, ap, subst, arith}
use Rattle.cell_records.specs.declared.cells.Slot.{Slot}
use Rattle.cell_records.specs.Order.{number_with, IsNumberIn}
use Rattle.cell_records.specs.Inner.References.{found_at}
use Rattle.cell_records.proofs.ResolvingFacts.{AreResolvingIn, resolving-more, resolving-all}
use Rattle.cell_records.proofs.resolving.resolve_each.Goals as goal

pub loop-k-preserved : goal.loop-k-preserved
loop-k-preserved c =
    let pair = c.get-address.ensures in
    let number = c.find-number.result in
    let found = subst (λ (l : List (ℕ × ℕ)). IsNumberIn l c.get-address.result.0 number) c.loop-k.invariant.0 c.find-number.ensures.number in
    let slots : c.put_cell.new.slots ≡ found_at c.loop-k.slots (get_or c.args.references.now c.loop-k.k (0, 0)).1 number =
    c.put_cell.ensures ∙ ap (λ (r : ℕ × ℕ). found_at c.loop-k.slots r.1 number) pair in (
      c.find-number.ensures.same ∙ c.loop-k.invariant.0,
      subst (λ (l : List Slot). AreResolvingIn c.args.ranks.now c.args.slots.now l c.args.references.now (c.loop-k.k + 1)) (sym slots)
          (λ xs ranked. resolving-more xs c.args.slots.now c.loop-k.slots c.args.references.now c.loop-k.k number (omega arith) c.requires.references
          (c.loop-k.invariant.1 xs ranked) (found xs ranked ∙ ap (λ (r : ℕ × ℕ). number_with xs r.0) pair)),
    )

pub returns : goal.returns
returns c addresses ranked =
    resolving-all addresses c.args.slots.now c.loop-k.slots c.args.references.now c.loop-k.k c.requires.references
    (omega arith) (c.loop-k.invariant.1 addresses ranked)
