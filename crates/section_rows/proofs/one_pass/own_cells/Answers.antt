use Rattle.std.proofs.Common.{List, ◌∷◌, [], Option, ap, sym, subst, length, get_or, length-append, None, arith}
use Rattle.field_lines.specs.Lines.{text_lines}
use Rattle.section_rows.specs.declared.columns.Kept.{Kept}
use Rattle.section_rows.specs.declared.columns.Column.TheVariants.{Tag}
use Rattle.section_rows.specs.Shown.{shown_cell, shown_column}
use Rattle.section_rows.specs.Inner.Lent.{shown_section}
use Rattle.section_rows.specs.Inner.Passing.{IsSettled}
use Rattle.section_rows.proofs.Passing.{own-more}
use Rattle.section_rows.proofs.one_pass.own_cells.Goals as goal

pub loop-column-preserved : goal.loop-column-preserved
loop-column-preserved c =
    let s = shown_section c.args.section.now in
    let columns = c.args.columns.now in
    let i = c.loop-column.column-index in
    let before = c.loop-column.cells.items in
    let pushed = c.in_ok-push.ensures.items in
    let more = length-append before (c.own.result ∷ []) in
    record {
      count = omega (arith, c.loop-column.invariant.count, ap length pushed, more);
      own = λ body k below.
          subst (λ cells. IsSettled s body (shown_column (get_or columns k Tag)) (text_lines body) (shown_cell (get_or cells k None))) (sym {A = List (Option Kept)} pushed)
          (own-more s columns i before c.own.result c.loop-column.invariant.count c.own.ensures.value c.own.ensures.room c.loop-column.invariant.own body k below);
    }
