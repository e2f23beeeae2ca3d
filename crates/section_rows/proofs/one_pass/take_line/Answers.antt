use Rattle.std.proofs.Common.{◌≤◌, ◌<◌, ◌∙◌, length, arith}
use Rattle.field_lines.specs.Shown.{shown_line}
use Rattle.section_rows.specs.Inner.Lent.{shown_section}
use Rattle.section_rows.proofs.Passing.{halfway-more, halfway-all, over-more}
use Rattle.section_rows.proofs.one_pass.take_line.Goals as goal

pub loop-c-preserved : goal.loop-c-preserved
loop-c-preserved c =
    let s = shown_section c.args.section.now in
    let line = shown_line c.args.line.now in
    let columns = c.args.columns.now in
    let n = c.loop-c.c in
    let before = c.loop-c.cells in
    let after = c.see_line-more.new.cells in
    let seen = c.see_line-more.ensures in
    let inside : n < length columns = omega (arith, c.loop-c-test.true) in
    record {
      count = seen.count ∙ c.loop-c.invariant.count;
      settles = λ body rest all.
          let half = c.loop-c.invariant.settles body rest all in
          halfway-more s body columns line rest n before after seen.others (seen.settles body rest (half.others n (omega arith) inside)) half;
      over = λ no.
          let over = seen.over no in
          over-more columns n before after seen.others over.1 (c.loop-c.invariant.over over.0);
    }

pub returns-clause-settles : goal.returns-clause-settles
returns-clause-settles c = λ body rest all.
    let upto : length c.args.columns.now ≤ c.loop-c.c = omega (arith, c.loop-c-test.false) in
    halfway-all (shown_section c.args.section.now) body c.args.columns.now (shown_line c.args.line.now) rest c.loop-c.c c.loop-c.cells upto c.loop-c.invariant.count
    (c.loop-c.invariant.settles body rest all)
