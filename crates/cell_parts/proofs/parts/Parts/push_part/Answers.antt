use Rattle.std.proofs.Common.{◌≡◌, ℕ, ◌+◌, ◌<◌, ◌^◌, ◌++◌, [], ◌∷◌, List, false, length, sym, ◌∙◌, ap, subst, arith}
use Rattle.std.specs.List.{list_any}
use Rattle.std.proofs.lemmas.List.{length-append, length-set}
use Rattle.cell_parts.specs.Parts.{CellParts}
use Rattle.cell_parts.specs.Inner.Joining.{is_of, part_alone}
use Rattle.cell_parts.specs.declared.parts.Kept.{Kept}
use Rattle.cell_parts.proofs.Pushing.{kept-more, parts-pushed, value-with}
use Rattle.cell_parts.proofs.parts.Parts.push_part.Goals as goal

few : (c : goal.After-self-1) → length c.self.inside.cells.items + 2 < 2 ^ 32
few c = omega (arith, c.len.ensures, c.if-len-ge-MOST.false, c.self.inside.cells.ok.0)

number : (c : goal.After-self-1) → c.len-2.result ≡ length c.self.inside.cells.items + 1
number c =
    let items = c.push_reserved.ensures.items ∙ ap (λ (cells : List ℕ). cells ++ c.args.cell ∷ []) c.reserve.ensures.items in
    omega (arith, c.len-2.ensures, c.push_reserved.new.self.ok.0, ap length items, length-append c.self.inside.cells.items (c.args.cell ∷ []))

pub invariant_of-self-2 : goal.invariant_of-self-2
invariant_of-self-2 c =
    let inside = c.self.inside in
    kept-more inside.places.items inside.cells.items inside.kept.items inside.labels.items c.self.invariant c.args.cell c.args.at c.args.label.now
    (few c)
    (subst (λ (v : CellParts). c.args.cell < v.cells) (sym c.self.view_is) c.requires.within)
    (subst (λ (v : CellParts). list_any (is_of c.args.cell) v.parts ≡ false) (sym c.self.view_is) c.requires.other)
    c.push_reserved.new.self.items c.push_label.new.labels.items c.push_reserved-2.new.self.items c.in_ok-from.from c.in_ok-from.size c.len-2.result
    c.in_ok-from.ensures.from c.in_ok-from.ensures.size
    (c.push_reserved.ensures.items ∙ ap (λ cells. cells ++ c.args.cell ∷ []) c.reserve.ensures.items)
    (c.push_reserved-2.ensures.items ∙ ap (λ (kept : List Kept). kept ++ (let k : Kept = record { elements = 1; at = c.args.at; from = c.in_ok-from.from; size = c.in_ok-from.size } in k) ∷ []) c.reserve-2.ensures.items)
    c.in_ok-from.ensures.grown
    (number c)

pub returns-clause-parts : goal.returns-clause-parts
returns-clause-parts c =
    let inside = c.self.inside in
    value-with c.args.self.now inside.places.items _ inside.elements _ _ (λ parts. parts ++ part_alone c.args.cell c.args.at c.args.label.now ∷ []) c.self.view_is
    (length-set inside.places.items c.args.cell c.len-2.result)
    (parts-pushed inside.places.items inside.cells.items inside.kept.items inside.labels.items c.self.invariant c.args.cell c.args.at c.args.label.now
    (few c)
    (subst (λ (v : CellParts). c.args.cell < v.cells) (sym c.self.view_is) c.requires.within)
    (subst (λ (v : CellParts). list_any (is_of c.args.cell) v.parts ≡ false) (sym c.self.view_is) c.requires.other)
    c.push_reserved.new.self.items c.push_label.new.labels.items c.push_reserved-2.new.self.items c.in_ok-from.from c.in_ok-from.size c.len-2.result
    c.in_ok-from.ensures.from c.in_ok-from.ensures.size
    (c.push_reserved.ensures.items ∙ ap (λ cells. cells ++ c.args.cell ∷ []) c.reserve.ensures.items)
    (c.push_reserved-2.ensures.items ∙ ap (λ (kept : List Kept). kept ++ (let k : Kept = record { elements = 1; at = c.args.at; from = c.in_ok-from.from; size = c.in_ok-from.size } in k) ∷ []) c.reserve-2.ensures.items)
    c.in_ok-from.ensures.grown
    (number c))
