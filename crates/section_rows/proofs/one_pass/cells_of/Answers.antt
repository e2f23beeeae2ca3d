use Rattle.std.proofs.Common.{◌∷◌, Option, length, drop, map, sym, ◌∙◌, ap, subst, arith}
use Rattle.std.specs.Prelude.{All}
use Rattle.std.proofs.lemmas.List.{take_at}
use Rattle.std.proofs.lemmas.List.Elements.{All-tail, All-head}
use Rattle.field_lines.specs.Lines.{IsPart}
use Rattle.field_lines.specs.Shown.{shown_line}
use Rattle.section_rows.specs.declared.columns.Kept.{Kept}
use Rattle.section_rows.specs.Shown.{shown_cell}
use Rattle.section_rows.specs.Inner.Lent.{shown_section}
use Rattle.section_rows.specs.Inner.Passing.{AreSettled}
use Rattle.section_rows.specs.Inner.Places.{HasRoom}
use Rattle.section_rows.proofs.Passing.{cells-whole, cells-over, cells-room}
use Rattle.section_rows.proofs.one_pass.cells_of.Goals as goal

pub loop-line-init : goal.loop-line-init
loop-line-init c = (
  tt,
  tt,
  subst (λ left. AreSettled (shown_section c.args.section.now) c.args.body.now c.args.columns.now left c.in_ok-cells.cells.items) (sym (c.into_iter-line-iterator.ensures.into_iter_gives ∙ c.lines-line-items.ensures.value))
      (c.in_ok-cells.ensures c.args.body.now),
  subst (All (IsPart c.args.body.now)) (sym c.into_iter-line-iterator.ensures.into_iter_gives) c.lines-line-items.ensures.parts,
)

pub take_line-requires-clause-inside : goal.take_line-requires-clause-inside
take_line-requires-clause-inside c =
    let body = c.args.body.now in
    let part = All-head (IsPart body) (shown_line c.in-Some.line) c.next.new.self (subst (All (IsPart body)) c.in-Some.ensures.steps c.loop-line.invariant.3) in
    omega (arith, part.within, c.requires.body)

pub take_line-requires-clause-small : goal.take_line-requires-clause-small
take_line-requires-clause-small c =
    let body = c.args.body.now in
    let part = All-head (IsPart body) (shown_line c.in-Some.line) c.next.new.self (subst (All (IsPart body)) c.in-Some.ensures.steps c.loop-line.invariant.3) in
    omega (arith, part.within, c.requires.small)

pub returns-then-not-take_line : goal.returns-then-not-take_line
returns-then-not-take_line c =
    let s = shown_section c.args.section.now in
    let body = c.args.body.now in
    let columns = c.args.columns.now in
    let rest = c.next.new.self in
    let before = subst (AreSettled s body columns (shown_line c.in-Some.line ∷ rest)) (sym c.deref_mut.ensures.value)
    (subst (λ left. AreSettled s body columns left c.loop-line.cells.items) c.in-Some.ensures.steps c.loop-line.invariant.2) in
    let after = c.take_line.new.cells in
    let back = take_at after (drop (length after) c.loop-line.cells.items) c.loop-line.cells.len (omega (arith, before.count, c.take_line.ensures.count, c.deref_mut.ensures.len)) in
    let left = c.take_line.ensures.settles body rest before in
    record {
      cells = ap (map shown_cell) back ∙ cells-over s body columns after rest (c.take_line.ensures.over c.if-not-take_line.true) left;
      room = subst (All (λ (cell : Option Kept). HasRoom s.at (shown_cell cell))) (sym back) (cells-room s body columns after rest left);
    }

pub loop-line-preserved : goal.loop-line-preserved
loop-line-preserved c =
    let s = shown_section c.args.section.now in
    let body = c.args.body.now in
    let columns = c.args.columns.now in
    let rest = c.next.new.self in
    let before = subst (AreSettled s body columns (shown_line c.in-Some.line ∷ rest)) (sym c.deref_mut.ensures.value)
    (subst (λ left. AreSettled s body columns left c.loop-line.cells.items) c.in-Some.ensures.steps c.loop-line.invariant.2) in
    let after = c.take_line.new.cells in
    let back = take_at after (drop (length after) c.loop-line.cells.items) c.loop-line.cells.len (omega (arith, before.count, c.take_line.ensures.count, c.deref_mut.ensures.len)) in (
      tt,
      tt,
      subst (AreSettled s body columns rest)
          (sym back)
          (c.take_line.ensures.settles body rest before),
      All-tail (IsPart body) (shown_line c.in-Some.line) rest (subst (All (IsPart body)) c.in-Some.ensures.steps c.loop-line.invariant.3),
    )

pub returns-clause-cells : goal.returns-clause-cells
returns-clause-cells c =
    cells-whole (shown_section c.args.section.now) c.args.body.now c.args.columns.now c.loop-line.cells.items c.loop-line.line-iterator c.in-None.ensures.steps.0 c.loop-line.invariant.2

pub returns-clause-room : goal.returns-clause-room
returns-clause-room c =
    cells-room (shown_section c.args.section.now) c.args.body.now c.args.columns.now c.loop-line.cells.items c.loop-line.line-iterator c.loop-line.invariant.2
