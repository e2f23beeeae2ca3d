use Rattle.std.proofs.Common.{length, ◌∙◌, ap, subst, arith}
use Rattle.std.specs.Prelude.{All}
use Rattle.std.proofs.lemmas.List.Elements.{All-tail, All-head}
use Rattle.field_lines.specs.Lines.{IsPart}
use Rattle.field_lines.specs.Shown.{shown_line}
use Rattle.heap_cells.specs.Cells.{line_cells}
use Rattle.heap_cells.specs.Inner.Texts.{text_of, seam_of}
use Rattle.heap_cells.proofs.GatheringFacts.{front-more, line-at, line-few}
use Rattle.heap_cells.proofs.gathering.gather_lines.Goals as goal

pub gather_line-requires-clause-line : goal.gather_line-requires-clause-line
gather_line-requires-clause-line c =
    let body = c.args.body.now in
    let line = shown_line c.in-Some.line in
    let parts = subst (All (IsPart body)) c.in-Some.ensures.steps c.loop-line.invariant.parts in
    line-at (text_of c.args.texts.now) (seam_of c.args.texts.now) c.args.base body line c.requires.body (All-head (IsPart body) line c.next.new.self parts)

pub loop-line-preserved : goal.loop-line-preserved
loop-line-preserved c =
    let body = c.args.body.now in
    let texts = c.args.texts.now in
    let line = shown_line c.in-Some.line in
    let steps = c.in-Some.ensures.steps in
    let parts = subst (All (IsPart body)) steps c.loop-line.invariant.parts in
    let short = line-few body line (All-head (IsPart body) line c.next.new.self parts) in
    let count = ap length steps in
    record {
      parts = All-tail (IsPart body) line c.next.new.self parts;
      limit = c.in_ok-gather_line.ensures.limit ∙ c.loop-line.invariant.limit;
      weight = let before = c.loop-line.invariant.weight in let more = c.in_ok-gather_line.ensures.weight in omega (arith, before, more, short, count, c.requires.few);
      small = c.in_ok-gather_line.ensures.small;
      gathers = front-more texts c.args.g.now c.loop-line.g c.gather_line.new.g (line_cells texts.enc body) _ c.next.new.self line steps c.loop-line.invariant.limit c.loop-line.invariant.gathers
          c.in_ok-gather_line.ensures.gathers;
    }
