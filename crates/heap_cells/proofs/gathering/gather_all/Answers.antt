use Rattle.std.proofs.Common.{List, ◌∙◌, ap, subst}
use Rattle.heap_cells.specs.Cells.{Cell, line_cells}
use Rattle.heap_cells.specs.Inner.Gathering.{Gathers}
use Rattle.heap_cells.proofs.GatheringFacts.{all-gathered}
use Rattle.heap_cells.proofs.gathering.gather_all.Goals as goal

pub returns-clause-all : goal.returns-clause-all
returns-clause-all c =
    let texts = c.args.texts.now in
    let first = c.gather_lines.new.g in
    let heap_is = ap (line_cells texts.enc) c.deref.ensures.value in
    let literals_is = ap (line_cells texts.enc) c.deref-2.ensures.value in
    all-gathered texts c.args.g.now first c.gather_lines-2.new.g c.len-own.result c.requires.none c.in_ok-gather_lines.ensures.limit c.in_ok-gather_lines-2.ensures.limit
    (subst (λ (l : List Cell). Gathers texts c.args.g.now first l) heap_is c.in_ok-gather_lines.ensures.gathers)
    (subst (λ (l : List Cell). Gathers texts first c.gather_lines-2.new.g l) literals_is c.in_ok-gather_lines-2.ensures.gathers)
    (c.len-own.ensures ∙ first.held.parts.ok.0)
