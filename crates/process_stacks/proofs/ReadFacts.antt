-- How much is read of stacks, one after another.
use Rattle.std.proofs.Common.{◌≡◌, ℕ, ◌+◌, ◌<◌, ◌≤◌, List, [], length, take, sym, ◌∙◌, ap, arith}
use Rattle.std.proofs.lemmas.List.Sums.{sum_by_more, sum_by-take-le}
use Rattle.std.proofs.lemmas.Option.{unwrap_or-slice_get}
use Rattle.dump_sections.specs.Bodies.{body_size}
use Rattle.dump_sections.specs.Index.{Contents}
use Rattle.section_rows.specs.Rows.{Row, row_at}
use Rattle.process_stacks.specs.Rows.{stack_section, stacks_length}

module _ (index : Contents) (rows : List Row) (p : ℕ) (inside : p < length rows) where
  pub stacks-more : stacks_length index (take (p + 1) rows) ≡ stacks_length index (take p rows) + body_size (stack_section index (row_at rows p))
  stacks-more =
      let none : Row = record { at = 0; cells = [] } in
      sum_by_more (λ row. body_size (stack_section index row)) rows p none inside
      ∙ ap (λ r. stacks_length index (take p rows) + body_size (stack_section index r)) (sym (unwrap_or-slice_get rows p none))

  pub stacks-upto : stacks_length index (take p rows) + body_size (stack_section index (row_at rows p)) ≤ stacks_length index rows
  stacks-upto = omega (arith, stacks-more, sum_by-take-le (λ row. body_size (stack_section index row)) rows (p + 1))
